-- What is appended to the octets of a file makes it the ledger with the entries that were booked.
use Rattle.std.proofs.Common.{◌≡◌, ℕ, List, [], ◌∷◌, ◌++◌, take, inl, inr, refl, sym, ap, ◌∙◌, subst, append-nil}
use Rattle.std.proofs.lemmas.List.Concat.{flat_map-cons}
use Rattle.sms_ledger.specs.declared.entry.Entry.{Entry}
use Rattle.sms_ledger.specs.Books.{AreBooked, State, after_all}
use Rattle.sms_ledger.specs.Lines.{IsBegunText, IsFileOf, IsU64, IsUnbegun, IsWholeLength, IsWholeText, Spells}
use Rattle.sms_ledger.specs.Posting.{appended_text, lines_of}
use Rattle.sms_ledger.specs.PostingLaws.{AreEntries, FilesGoOn, FilesTakeEntries}
use Rattle.sms_ledger.specs.Text.{entry_text, header_text}
use Rattle.sms_ledger.proofs.Postings.{booked_append, posts_append}
use Rattle.sms_ledger.proofs.Spelling.{headers_begin, unbegun_none, whole_lines, wholes_spell}

-- behind whole lines of which the first is the header go the lines alone
headed : (front lines more : List ℕ) → front ≡ header_text ++ lines → front ++ appended_text front more ≡ front ++ more
headed front lines more is = subst (λ (l : List ℕ). l ++ appended_text l more ≡ l ++ more) (sym is) refl

whole_on : (text : List ℕ) (es more : List Entry) (n time : ℕ) → IsWholeLength text n → IsBegunText text es → IsU64 time → AreEntries more → IsWholeText (take n text ++ appended_text (take n text) (lines_of time more)) (es ++ more)
whole_on text es more n time long begun low are =
    let whole = whole_lines text n es long begun in
    subst (λ (l : List ℕ). IsWholeText l (es ++ more)) (sym (headed (take n text) whole.lines (lines_of time more) whole.is)) (posts_append (take n text) es more time whole low are)

-- octets that are only the first of the header are cut off, and the header goes before the lines
unbegun_on : (text : List ℕ) (more : List Entry) (n time : ℕ) → IsWholeLength text n → IsUnbegun text → IsU64 time → AreEntries more → IsWholeText (take n text ++ appended_text (take n text) (lines_of time more)) more
unbegun_on text more n time long u low are = by_rest u.rest u.is
  where
    by_rest : (rest : List ℕ) → header_text ≡ text ++ rest → IsWholeText (take n text ++ appended_text (take n text) (lines_of time more)) more
    by_rest [] is =
        let same : text ≡ header_text = sym (append-nil text) ∙ sym is in
        whole_on text [] more n time long (record { front = header_text; cut = []; is = same ∙ sym (append-nil header_text); whole = headers_begin; unended = tt }) low are
    by_rest (next ∷ rest) is =
        let none = unbegun_none text n next rest long is in
        subst (λ (k : ℕ). IsWholeText (take k text ++ appended_text (take k text) (lines_of time more)) more) (sym none) (posts_append header_text [] more time headers_begin low are)

wholly : (text : List ℕ) (es more : List Entry) (n time : ℕ) → IsWholeLength text n → Spells text es → IsU64 time → AreEntries more → IsWholeText (take n text ++ appended_text (take n text) (lines_of time more)) (es ++ more)
wholly text es more n time long (inl begun) low are = whole_on text es more n time long begun low are
wholly text es more n time long (inr u) low are =
    subst (λ (l : List Entry). IsWholeText (take n text ++ appended_text (take n text) (lines_of time more)) (l ++ more)) (sym u.1) (unbegun_on text more n time long u.0 low are)

pub files_go_on : FilesGoOn
files_go_on text n time s more file long low are ok =
    let whole = wholly text file.entries more n time long file.spells low are in
    let booked = booked_append file.entries more file.booked (subst (λ (t : State). AreBooked t more) file.books ok) in
    record {
      entries = file.entries ++ more;
      spells = wholes_spell (take n text ++ appended_text (take n text) (lines_of time more)) (file.entries ++ more) whole;
      booked = booked.0;
      books = ap (after_all more) file.books ∙ sym booked.1;
    }

pub files_take_entries : FilesTakeEntries
files_take_entries text n time s t e file long low good booked =
    let on = files_go_on text n time s (e ∷ []) file long low (good, tt) (booked.0, tt) in
    subst (λ (l : List ℕ). IsFileOf (take n text ++ appended_text (take n text) l) t) one (subst (IsFileOf (take n text ++ appended_text (take n text) (lines_of time (e ∷ [])))) (sym booked.1) on)
  where
    one : lines_of time (e ∷ []) ≡ entry_text time e
    one = flat_map-cons (entry_text time) e [] ∙ append-nil (entry_text time e)
