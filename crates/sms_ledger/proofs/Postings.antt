-- Entries that are booked one after another.
use Rattle.std.proofs.Common.{◌≡◌, ℕ, zero, suc, ◌+◌, ◌<◌, ◌≤◌, List, [], ◌∷◌, ◌++◌, length, take, drop, get_or, Some, None, refl, sym, ap, ◌∙◌, subst, arith, append-nil, append_assoc}
use Rattle.std.proofs.Math.Seq.{drop-cons, take-suc}
use Rattle.std.proofs.lemmas.List.{take-append-drop}
use Rattle.std.proofs.lemmas.Grind.{flat_map-append}
use Rattle.std.proofs.lemmas.List.Concat.{flat_map-cons}
use Rattle.sms_core.specs.declared.row.Row.{Row as RunRow}
use Rattle.sms_ledger.specs.declared.entry.Entry.{Entry}
use Rattle.sms_ledger.specs.declared.refusal.Refusal.{Refusal}
use Rattle.sms_ledger.specs.declared.refusal.Refusal.TheVariants.{NothingPaid, PaidBefore, TooMuch, NoAccount, NoCredit, TakenBefore, NotTaken, BackBefore, NotBack, Unequal, DecidedBefore, NoDoubt, OutOfMemory}
use Rattle.sms_ledger.specs.Books.{AreBooked, IsBooked, IsLedger, IsRefused, State, Unless, after, after_all, books_of, refusal_of}
use Rattle.sms_ledger.specs.Posting.{ArePosted, IsStopped, lines_of, return_of, returns_of}
use Rattle.sms_ledger.specs.Text.{entry_text}
use Rattle.sms_ledger.specs.Lines.{IsWholeText}
use Rattle.sms_ledger.specs.PostingLaws.{BookedAppend, PostsAppend}
use Rattle.sms_ledger.proofs.Records.{after_front, booked_back}
use Rattle.sms_ledger.proofs.Spelling.{entries_append, lines_append}

module _ {A : Type 0} where
  none_left : (xs : List A) (k : ℕ) → length xs ≤ k → drop k xs ≡ []
  none_left [] zero low = refl
  none_left [] (suc k) low = refl
  none_left (x ∷ xs) zero low = absurd (omega (arith, low))
  none_left (x ∷ xs) (suc k) low = none_left xs k (omega (arith, low))

  pub item_left : (xs : List A) (k : ℕ) (x : A) → k < length xs → x ≡ get_or xs k x → drop k xs ≡ x ∷ drop (suc k) xs
  item_left xs k x low is = drop-cons xs k x low ∙ ap (λ (y : A). y ∷ drop (suc k) xs) (sym is)

  pub item_split : (xs : List A) (k : ℕ) (x : A) → k < length xs → x ≡ get_or xs k x → xs ≡ take k xs ++ x ∷ drop (suc k) xs
  item_split xs k x low is = sym (take-append-drop k xs) ∙ ap (λ (l : List A). take k xs ++ l) (item_left xs k x low is)

  pub item_taken : (xs : List A) (k : ℕ) (x : A) → k < length xs → x ≡ get_or xs k x → take k xs ++ x ∷ [] ≡ take (k + 1) xs
  item_taken xs k x low is = let next : suc k ≡ k + 1 = omega arith in ap (λ (y : A). take k xs ++ y ∷ []) is ∙ sym (take-suc xs k x low) ∙ ap (λ (n : ℕ). take n xs) next

pub unless_map : {P Q : Type 0} (r : Refusal) → (P → Q) → Unless r P → Unless r Q
unless_map NothingPaid f p = f p
unless_map PaidBefore f p = f p
unless_map TooMuch f p = f p
unless_map NoAccount f p = f p
unless_map NoCredit f p = f p
unless_map TakenBefore f p = f p
unless_map NotTaken f p = f p
unless_map BackBefore f p = f p
unless_map NotBack f p = f p
unless_map Unequal f p = f p
unless_map DecidedBefore f p = f p
unless_map NoDoubt f p = f p
unless_map (OutOfMemory refused) f p = tt

pub none_posted : (time : ℕ) (s : State) → ArePosted time [] s s []
none_posted time s = record { booked = tt; books = refl; lines = refl }

pub one_posted : (time : ℕ) (es : List Entry) (e : Entry) (a b c : State) (text line : List ℕ) → ArePosted time es a b text → IsBooked e b c → line ≡ text ++ entry_text time e → ArePosted time (es ++ e ∷ []) a c line
one_posted time es e a b c text line so booked is = record {
  booked = booked_back es e a so.booked (subst (λ (s : State). refusal_of e s ≡ None) so.books booked.0);
  books = booked.1 ∙ ap (after e) so.books ∙ sym (after_front es e a);
  lines = is ∙ ap (λ (l : List ℕ). l ++ entry_text time e) so.lines ∙ ap (λ (l : List ℕ). lines_of time es ++ l) (one e) ∙ sym (flat_map-append (entry_text time) es (e ∷ []));
}
  where
    one : (e : Entry) → entry_text time e ≡ lines_of time (e ∷ [])
    one e = sym (append-nil (entry_text time e)) ∙ sym (flat_map-cons (entry_text time) e [])

pub stopped : (time : ℕ) (es front rest : List Entry) (e : Entry) (a b c : State) (text : List ℕ) (r : Refusal) → es ≡ front ++ e ∷ rest → ArePosted time front a b text → IsRefused e b c r → IsStopped es a r
stopped time es front rest e a b c text r is so bad =
    unless_map r (λ p. record { front = front; entry = e; rest = rest; is = is; booked = so.booked; refused = subst (λ (s : State). refusal_of e s ≡ Some r) so.books p.0 }) bad

-- ---- the rows of a statement, one after another

pub returns_next : (run : List ℕ) (s : State) (accounts : List (List ℕ)) (rows : List RunRow) (k : ℕ) (account : List ℕ) (row : RunRow) → drop k accounts ≡ account ∷ drop (suc k) accounts → drop k rows ≡ row ∷ drop (suc k) rows
    → returns_of run s (drop k accounts) (drop k rows) ≡ return_of run s account row ++ returns_of run s (drop (suc k) accounts) (drop (suc k) rows)
returns_next run s accounts rows k account row a r = ap (λ (l : List (List ℕ)). returns_of run s l (drop k rows)) a ∙ ap (returns_of run s (account ∷ drop (suc k) accounts)) r

pub returns_more : (run : List ℕ) (s : State) (accounts : List (List ℕ)) (rows : List RunRow) (k n : ℕ) (account : List ℕ) (row : RunRow) (all old new : List Entry) → n ≡ suc k → drop k accounts ≡ account ∷ drop (suc k) accounts → drop k rows ≡ row ∷ drop (suc k) rows
    → old ++ returns_of run s (drop k accounts) (drop k rows) ≡ all → new ≡ old ++ return_of run s account row → new ++ returns_of run s (drop n accounts) (drop n rows) ≡ all
returns_more run s accounts rows k n account row all old new n_is a r so is =
    ap (λ (m : ℕ). new ++ returns_of run s (drop m accounts) (drop m rows)) n_is ∙ ap (λ (l : List Entry). l ++ returns_of run s (drop (suc k) accounts) (drop (suc k) rows)) is
    ∙ append_assoc old (return_of run s account row) (returns_of run s (drop (suc k) accounts) (drop (suc k) rows)) ∙ ap (λ (l : List Entry). old ++ l) (sym (returns_next run s accounts rows k account row a r)) ∙ so

-- without a row there are no more
pub rows_done : (run : List ℕ) (s : State) (accounts : List (List ℕ)) (rows : List RunRow) (k : ℕ) → length rows ≤ k → returns_of run s accounts (drop k rows) ≡ []
rows_done run s accounts rows k e = ap (returns_of run s accounts) (none_left rows k e) ∙ none accounts
  where
    none : (l : List (List ℕ)) → returns_of run s l [] ≡ []
    none [] = refl
    none (x ∷ l) = refl

-- ---- what is appended

pub posts_append : PostsAppend
posts_append text es [] time whole low are = subst (λ (l : List ℕ). IsWholeText l (es ++ [])) (sym (append-nil text)) (subst (IsWholeText text) (sym (append-nil es)) whole)
posts_append text es (e ∷ more) time whole low are =
    let one = lines_append text es time e whole low are.0 in
    let all = posts_append (text ++ entry_text time e) (es ++ e ∷ []) more time one low are.1 in
    let octets : (text ++ entry_text time e) ++ lines_of time more ≡ text ++ lines_of time (e ∷ more) = append_assoc text (entry_text time e) (lines_of time more) ∙ ap (λ (l : List ℕ). text ++ l) (sym (flat_map-cons (entry_text time) e more)) in
    subst (λ (l : List ℕ). IsWholeText l (es ++ e ∷ more)) octets (subst (IsWholeText ((text ++ entry_text time e) ++ lines_of time more)) (append_assoc es (e ∷ []) more) all)

pub booked_append : BookedAppend
booked_append es [] booked ok = (subst IsLedger (sym (append-nil es)) booked, ap books_of (append-nil es))
booked_append es (e ∷ more) booked ok =
    let one = entries_append es e booked ok.0 in
    let all = booked_append (es ++ e ∷ []) more one.0 (subst (λ (s : State). AreBooked s more) (sym one.1) ok.1) in
    let same : (es ++ e ∷ []) ++ more ≡ es ++ e ∷ more = append_assoc es (e ∷ []) more in
    (subst IsLedger same all.0, ap books_of (sym same) ∙ all.1 ∙ ap (after_all more) one.1)
