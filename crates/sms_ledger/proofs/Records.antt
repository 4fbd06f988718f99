-- Lines that are read.
use Rattle.std.proofs.Common.{◌≡◌, ℕ, ◌+◌, ◌<◌, ◌≤◌, Bool, true, false, List, [], ◌∷◌, ◌++◌, length, take, Some, None, inl, inr, refl, sym, ap, ◌∙◌, subst, arith, append-nil, append_assoc, length-append}
use Rattle.std.specs.Prelude.{◌&&◌, ◌==◌, nat_le, Option, option_map, option_and_then, codes, if◌then◌else◌}
use Rattle.std.specs.Str.{bytes_eq}
use Rattle.std.specs.Str.Parse.{digits_value}
use Rattle.std.proofs.Math.Seq.{take-append_seam}
use Rattle.std.proofs.lemmas.Bool.{and_parts, leb-true}
use Rattle.sms_core.specs.Decimal.{decimal_in, is_numeral}
use Rattle.sms_ledger.specs.declared.name.RunAccount.{RunAccount}
use Rattle.sms_ledger.specs.declared.reading.PartFields.{PartFields}
use Rattle.sms_ledger.specs.declared.entry.Entry.{Entry}
use Rattle.sms_ledger.specs.Books.{after, after_all, AreBooked, IsBooked, IsLedger, State, books_of, nothing, refusal_of}
use Rattle.sms_ledger.specs.Names.{IsName, IsRun, is_name, is_run, name_said, run_said}
use Rattle.sms_ledger.specs.Text.{entry_text, header_text}
use Rattle.sms_ledger.specs.declared.fault.Fault.{Fault}
use Rattle.sms_ledger.specs.declared.fault.Fault.TheVariants.{Unreadable, Refused, Memory}
use Rattle.sms_ledger.specs.Lines.{AreLines, BeginsWith, HasNoFeed, IsAt, IsEntry, IsFaulty, IsFaultyBehind, IsFileBehind, IsFileOf, IsLineOf, IsOneLine, IsPair, IsReference, IsRefusedAt, IsRefusedLine, IsU64}
use Rattle.sms_ledger.specs.Reading.{behind_field, decided_in, decided_of, entry_in, fate_in, field_in, kind_in, paid_in, paid_of, pair_in, part_in, reference_in, returned_in, returned_of, taken_in, taken_of, time_in, u64_in, u8_in}
use Rattle.sms_ledger.proofs.Fields.{entry_found, time_found}

-- a text that begins with another does not begin so
pub no_front : (text front start rest : List ℕ) → start ≡ take (length front) text → text ≡ front ++ rest → start ≡ front
no_front text front start rest is e = is ∙ ap (take (length front)) e ∙ take-append_seam front rest

-- ---- the time and the entry of a line

pub no_time : (line : List ℕ) (e : Entry) → IsLineOf line e → time_in line ≡ None → ⊥
no_time line e l none = let bad : Some l.time ≡ None = sym (time_found l.time e l.low) ∙ ap time_in (sym l.is) ∙ none in absurd (cc)

pub no_entry : (line : List ℕ) (e : Entry) → IsLineOf line e → entry_in line ≡ None → ⊥
no_entry line e l none = let bad : Some e ≡ None = sym (entry_found l.time e l.low l.good) ∙ ap entry_in (sym l.is) ∙ none in absurd (cc)

-- so it is written as what was read
pub written_again : (line : List ℕ) (e : Entry) (t : ℕ) (x : Entry) → IsLineOf line e → time_in line ≡ Some t → entry_in line ≡ Some x → entry_text t x ≡ line
written_again line e t x l there told =
    let a : Some l.time ≡ Some t = sym (time_found l.time e l.low) ∙ ap time_in (sym l.is) ∙ there in
    let b : Some e ≡ Some x = sym (entry_found l.time e l.low l.good) ∙ ap entry_in (sym l.is) ∙ told in
    let same_time : l.time ≡ t = cc in
    let same_entry : e ≡ x = cc in
    ap (λ (k : ℕ). entry_text k x) (sym same_time) ∙ ap (entry_text l.time) (sym same_entry) ∙ sym l.is

-- two entries don't have one line
pub line_once : (line : List ℕ) (e x : Entry) → IsLineOf line e → IsLineOf line x → e ≡ x
line_once line e x l m = let b : Some e ≡ Some x = sym (entry_found l.time e l.low l.good) ∙ ap entry_in (sym l.is ∙ m.is) ∙ entry_found m.time x m.low m.good in cc

-- ---- what is read is an entry

record Then {A B : Type 0} (f : A → Option B) (o : Option A) (y : B) : Type 0 where
  pub x : A
  pub some : o ≡ Some x
  pub behind : f x ≡ Some y

and_then : {A B : Type 0} (f : A → Option B) (o : Option A) (y : B) → option_and_then f o ≡ Some y → Then f o y
and_then f None y e = absurd (cc)
and_then f (Some x) y e = record { x = x; some = refl; behind = e }

record Maps {A B : Type 0} (f : A → B) (o : Option A) (y : B) : Type 0 where
  pub x : A
  pub some : o ≡ Some x
  pub is : f x ≡ y

mapped : {A B : Type 0} (f : A → B) (o : Option A) (y : B) → option_map f o ≡ Some y → Maps f o y
mapped f None y e = absurd (cc)
mapped f (Some x) y e = record { x = x; some = refl; is = (cc) }

below : (f : List ℕ) (most n : ℕ) → decimal_in most f ≡ Some n → n < most + 1
below f most n e = here (is_numeral f && nat_le (digits_value 10 f) most) refl e
  where
    here : (b : Bool) → (is_numeral f && nat_le (digits_value 10 f) most) ≡ b → (if b then Some (digits_value 10 f) else None) ≡ Some n → n < most + 1
    here true is e =
        let same : digits_value 10 f ≡ n = cc in
        let low = leb-true (digits_value 10 f) most (and_parts (is_numeral f) (nat_le (digits_value 10 f) most) is).1 in
        omega (arith, same, low)
    here false is e = absurd (cc)

u64_good : (f : List ℕ) (n : ℕ) → u64_in f ≡ Some n → IsU64 n
unfolding u64_in
u64_good f n e = omega (arith, below f 0xFFFF_FFFF_FFFF_FFFF n e)

name_good : (f a : List ℕ) → name_said f ≡ Some a → IsName a
name_good f a e = here (is_name f) refl e
  where
    here : (b : Bool) → is_name f ≡ b → (if b then Some f else None) ≡ Some a → IsName a
    here true is e = let same : f ≡ a = cc in subst IsName same is
    here false is e = absurd (cc)

run_good : (f a : List ℕ) → run_said f ≡ Some a → IsRun a
run_good f a e = here (is_run f) refl e
  where
    here : (b : Bool) → is_run f ≡ b → (if b then Some f else None) ≡ Some a → IsRun a
    here true is e = let same : f ≡ a = cc in subst IsRun same is
    here false is e = absurd (cc)

pair_good : (r a : List ℕ) (of : RunAccount) → pair_in r a ≡ Some of → IsPair of
pair_good r a of is =
    let h0 = and_then _ (run_said r) of is in
    let h1 = mapped _ (name_said a) of h0.behind in
    subst IsPair h1.is (run_good r h0.x h0.some, name_good a h1.x h1.some)

reference_good : (f : List ℕ) (reference : Option (List ℕ)) → reference_in f ≡ Some reference → IsReference reference
reference_good f reference e = here (length f == 0) e
  where
    here : (b : Bool) → (if b then Some None else option_map (λ (r : List ℕ). Some r) (name_said f)) ≡ Some reference → IsReference reference
    here true e = let same : None ≡ reference = cc in subst IsReference same tt
    here false e = let h = mapped _ (name_said f) reference e in subst IsReference h.is (name_good f h.x h.some)

u8_good : (f : List ℕ) (n : ℕ) → u8_in f ≡ Some n → n < 256
unfolding u8_in
u8_good f n e = omega (arith, below f 0xFF n e)

paid_good : (a n r : List ℕ) (e : Entry) → paid_of a n r ≡ Some e → IsEntry e
paid_good a n r e is =
    let h0 = and_then _ (name_said a) e is in
    let h1 = and_then _ (u64_in n) e h0.behind in
    let h2 = mapped _ (reference_in r) e h1.behind in
    subst IsEntry h2.is (name_good a h0.x h0.some, u64_good n h1.x h1.some, reference_good r h2.x h2.some)

taken_good : (r a n : List ℕ) (e : Entry) → taken_of r a n ≡ Some e → IsEntry e
taken_good r a n e is =
    let h0 = and_then _ (pair_in r a) e is in
    let h1 = mapped _ (u64_in n) e h0.behind in
    subst IsEntry h1.is (pair_good r a h0.x h0.some, u64_good n h1.x h1.some)

returned_good : (r a m n k : List ℕ) (e : Entry) → returned_of r a m n k ≡ Some e → IsEntry e
returned_good r a m n k e is =
    let h0 = and_then _ (pair_in r a) e is in
    let h1 = and_then _ (u64_in m) e h0.behind in
    let h2 = and_then _ (u64_in n) e h1.behind in
    let h3 = mapped _ (u64_in k) e h2.behind in
    subst IsEntry h3.is (pair_good r a h0.x h0.some, u64_good m h1.x h1.some, u64_good n h2.x h2.some, u64_good k h3.x h3.some)

-- what a part's fields say is in their range
abbrev IsPart : PartFields → Type 0
IsPart p = IsU64 p.message × (p.part < 256) × IsU64 p.cost

part_good : (m p n w : List ℕ) (part : PartFields) → part_in m p n w ≡ Some part → IsPart part
part_good m p n w part is =
    let h0 = and_then _ (u64_in m) part is in
    let h1 = and_then _ (u8_in p) part h0.behind in
    let h2 = and_then _ (u64_in n) part h1.behind in
    let h3 = mapped _ (fate_in w) part h2.behind in
    subst IsPart h3.is (u64_good m h0.x h0.some, u8_good p h1.x h1.some, u64_good n h2.x h2.some)

decided_good : (r m p a n w : List ℕ) (e : Entry) → decided_of r m p a n w ≡ Some e → IsEntry e
decided_good r m p a n w e is =
    let h0 = and_then _ (pair_in r a) e is in
    let h1 = mapped _ (part_in m p n w) e h0.behind in
    let part = part_good m p n w h1.x h1.some in
    subst IsEntry h1.is (pair_good r a h0.x h0.some, part.0, part.1, part.2)

choose : (b : Bool) (x y : Option Entry) (e : Entry) → (x ≡ Some e → IsEntry e) → (y ≡ Some e → IsEntry e) → (if b then x else y) ≡ Some e → IsEntry e
choose true x y e hx hy is = hx is
choose false x y e hx hy is = hy is

kind_good : (word text : List ℕ) (e : Entry) → kind_in word text ≡ Some e → IsEntry e
kind_good word text e is =
    let f0 = field_in text in
    let f1 = field_in (behind_field text) in
    let f2 = field_in (behind_field (behind_field text)) in
    let f3 = field_in (behind_field (behind_field (behind_field text))) in
    let f4 = field_in (behind_field (behind_field (behind_field (behind_field text)))) in
    let f5 = field_in (behind_field (behind_field (behind_field (behind_field (behind_field text))))) in
    choose (bytes_eq word (codes "paid")) (paid_in text) _ e (paid_good f0 f1 f2 e)
    (choose (bytes_eq word (codes "taken")) (taken_in text) _ e (taken_good f0 f1 f2 e)
    (choose (bytes_eq word (codes "back")) (returned_in text) _ e (returned_good f0 f1 f2 f3 f4 e) (choose (bytes_eq word (codes "decided")) (decided_in text) None e (decided_good f0 f1 f2 f3 f4 f5 e) (λ none. absurd (cc))))) is

pub entry_good : (line : List ℕ) (e : Entry) → entry_in line ≡ Some e → IsEntry e
unfolding entry_in
entry_good line e is = kind_good (field_in line) (behind_field (behind_field line)) e is

pub time_good : (line : List ℕ) (t : ℕ) → time_in line ≡ Some t → IsU64 t
unfolding time_in
time_good line t is = u64_good (field_in (behind_field line)) t is

-- ---- lines

pub lines_more : (lines line : List ℕ) (es : List Entry) (e : Entry) → AreLines lines es → IsLineOf line e → AreLines (lines ++ line) (es ++ e ∷ [])
lines_more lines line [] e are here = (line, [], ap (λ (l : List ℕ). l ++ line) are ∙ sym (append-nil line), here, refl)
lines_more lines line (x ∷ es) e are here =
    (are.0, are.1 ++ line, ap (λ (l : List ℕ). l ++ line) are.2 ∙ append_assoc are.0 are.1 line, are.3, lines_more are.1 line es e are.4 here)

-- ---- ledgers

pub after_front : (es : List Entry) (e : Entry) (s : State) → after_all (es ++ e ∷ []) s ≡ after e (after_all es s)
after_front [] e s = refl
after_front (x ∷ es) e s = after_front es e (after x s)

pub booked_back : (es : List Entry) (e : Entry) (s : State) → AreBooked s es → refusal_of e (after_all es s) ≡ None → AreBooked s (es ++ e ∷ [])
booked_back [] e s booked ok = (ok, tt)
booked_back (x ∷ es) e s booked ok = (booked.0, booked_back es e (after x s) booked.1 ok)

pub books_more : (es : List Entry) (e : Entry) → books_of (es ++ e ∷ []) ≡ after e (books_of es)
books_more es e = after_front es e nothing

pub ledger_more : (es : List Entry) (e : Entry) → IsLedger es → refusal_of e (books_of es) ≡ None → IsLedger (es ++ e ∷ [])
ledger_more es e booked ok = booked_back es e nothing booked ok

-- ---- what a reader has read so far

pub record IsReadTo (text left : List ℕ) (place : ℕ) (s : State) : Type 0 where
  pub entries : List Entry
  pub lines : List ℕ
  pub counted : place ≡ length entries + 2
  pub few : place + length left ≤ length text + 2
  pub is : text ≡ lines ++ left
  pub are : AreLines lines entries
  pub booked : IsLedger entries
  pub books : s ≡ books_of entries

pub none_read : (text : List ℕ) (s : State) → s ≡ nothing → IsReadTo text text 2 s
none_read text s is = record { entries = []; lines = []; counted = refl; few = omega arith; is = refl; are = refl; booked = tt; books = is }

long : (line rest : List ℕ) → IsOneLine line → 1 ≤ length line
long line rest one = omega (arith, ap length one.is, length-append one.body (10 ∷ []))

pub one_more : (text left line rest : List ℕ) (place : ℕ) (old new : State) (e : Entry) → IsReadTo text left place old → BeginsWith line rest left → IsLineOf line e → IsBooked e old new → IsReadTo text rest (place + 1) new
one_more text left line rest place old new e so begins here booked =
    let ok : refusal_of e (books_of so.entries) ≡ None = subst (λ (s : State). refusal_of e s ≡ None) so.books booked.0 in
    record {
      entries = so.entries ++ e ∷ [];
      lines = so.lines ++ line;
      counted = omega (arith, so.counted, length-append so.entries (e ∷ []));
      few = omega (arith, so.few, ap length begins.is, length-append line rest, long line rest begins.one);
      is = so.is ∙ ap (λ (l : List ℕ). so.lines ++ l) begins.is ∙ sym (append_assoc so.lines line rest);
      are = lines_more so.lines line so.entries e so.are here;
      booked = ledger_more so.entries e so.booked ok;
      books = booked.1 ∙ ap (after e) so.books ∙ sym (books_more so.entries e);
    }

pub fewer : (left line rest : List ℕ) → BeginsWith line rest left → length rest < length left
fewer left line rest begins = omega (arith, ap length begins.is, length-append line rest, long line rest begins.one)

pub at_fault : (P : State → List ℕ → Type 0) (text left line rest : List ℕ) (place : ℕ) (s : State) → IsReadTo text left place s → BeginsWith line rest left → P s line → IsAt place text P
at_fault P text left line rest place s so begins says = record {
  entries = so.entries;
  lines = so.lines;
  left = left;
  line = line;
  rest = rest;
  counted = so.counted;
  is = so.is;
  are = so.are;
  booked = so.booked;
  begins = begins;
  says = subst (λ (x : State). P x line) so.books says;
}

pub refused_at : (text left line rest : List ℕ) (place : ℕ) (s : State) (e : Entry) (f : Fault) → IsReadTo text left place s → BeginsWith line rest left → IsLineOf line e → IsRefusedAt place e s f → IsFaultyBehind text f
refused_at text left line rest place s e (Unreadable k) so begins here bad = absurd bad
refused_at text left line rest place s e (Refused k r) so begins here bad =
    subst (λ (n : ℕ). IsAt n text (IsRefusedLine r)) (sym bad.0) (at_fault (IsRefusedLine r) text left line rest place s so begins (e, here, bad.1))
refused_at text left line rest place s e (Memory refused) so begins here bad = tt

pub all_read : (text left : List ℕ) (place : ℕ) (s : State) → IsReadTo text left place s → HasNoFeed left → IsFileBehind text s
all_read text left place s so none = record { entries = so.entries; lines = so.lines; cut = left; is = so.is; are = so.are; unended = none; booked = so.booked; books = so.books }

pub whole_file : (text behind : List ℕ) (s : State) → text ≡ header_text ++ behind → IsFileBehind behind s → IsFileOf text s
whole_file text behind s is so = record {
  entries = so.entries;
  spells = inl (record {
    front = header_text ++ so.lines;
    cut = so.cut;
    is = is ∙ ap (λ (l : List ℕ). header_text ++ l) so.is ∙ sym (append_assoc header_text so.lines so.cut);
    whole = record { lines = so.lines; is = refl; are = so.are };
    unended = so.unended;
  });
  booked = so.booked;
  books = so.books;
}

pub faulty_file : (text behind : List ℕ) (f : Fault) → text ≡ header_text ++ behind → IsFaultyBehind behind f → IsFaulty text f
faulty_file text behind (Unreadable k) is bad = inr (behind, is, bad)
faulty_file text behind (Refused k r) is bad = (behind, is, bad)
faulty_file text behind (Memory refused) is bad = tt

pub unbegun_file : (text rest : List ℕ) (s : State) → header_text ≡ text ++ rest → s ≡ nothing → IsFileOf text s
unbegun_file text rest s is none = record { entries = []; spells = inr (record { rest = rest; is = is }, refl); booked = tt; books = none }
