-- The first faulty record of a file, and what is wrong with it and with those before it.
use Rattle.std.proofs.Common.{◌≡◌, ◌∙◌, sym, refl, ap, ℕ, zero, suc, ◌+◌, ◌<◌, ◌≤◌, ◌⊎◌, inl, inr, Bool, true, false, List, [], ◌∷◌, Option, Some, None, arith}
use Rattle.std.specs.Prelude.{nat_le, nat_lt}
use Rattle.std.proofs.lemmas.Bool.Decides.{nat_tests}
use Rattle.sms_files.specs.FieldFlaws.{first_flaw}
use Rattle.sms_files.specs.Fields.{Field, Record}
use Rattle.sms_files.specs.Flaws.{IsFirstFlaw, flaw_alone, flaw_at, flaw_beside, flaw_there, placed_flaw, record_behind}
use Rattle.sms_files.specs.Messages.{message_flaw, messages_fault, messages_header_flaw, most_messages}
use Rattle.sms_files.specs.Records.{Trouble, file_fault, record_fault, some_trouble}
use Rattle.sms_files.specs.Schedule.{event_flaw, most_events, schedule_fault, world_flaw}
use Rattle.sms_files.specs.declared.fault.Source.{Source}
use Rattle.sms_files.specs.declared.fault.Source.TheVariants.{Messages, Schedule}
use Rattle.sms_files.specs.declared.flaw.Flaw.{Flaw}
use Rattle.sms_files.specs.declared.flaw.Flaw.TheVariants.{Missing, OneTooMany}
use Rattle.sms_files.proofs.Runs.{fault-bad, fault-good, fault-many}

-- ---- where the first faulty record stands

-- the record after so many has no flaw, and is within the limit
pub record Fine (flaw : Record → Option Flaw) (most before : ℕ) (rs : List Record) (k : ℕ) : Type 0 where
  pub r : Record
  pub there : record_behind k rs ≡ Some r
  pub good : flaw r ≡ None
  pub low : before + k ≤ most

-- why a record has this flaw there
abbrev pub IsBad : (Record → Option Flaw) → ℕ → ℕ → Record → Flaw → Type 0
IsBad flaw most at r is = ((most < at) × (is ≡ OneTooMany)) ⊎ ((at ≤ most) × (flaw r ≡ Some is))

-- a record has it, and all before it have none
pub record Found (flaw : Record → Option Flaw) (most before place : ℕ) (is : Flaw) (rs : List Record) : Type 0 where
  pub few : ℕ
  pub r : Record
  pub there : record_behind few rs ≡ Some r
  pub place_is : place ≡ before + few + 1
  pub bad : IsBad flaw most (before + few) r is
  pub fine : (k : ℕ) → k < few → Fine flaw most before rs k

no_fine : (flaw : Record → Option Flaw) (most before : ℕ) (rs : List Record) (k : ℕ) → k < 0 → Fine flaw most before rs k
no_fine flaw most before rs k lt = absurd (omega (arith, lt))

found_first : (flaw : Record → Option Flaw) (most before place : ℕ) (is : Flaw) (r : Record) (rs : List Record) → before + 1 ≡ place → IsBad flaw most before r is → Found flaw most before place is (r ∷ rs)
found_first flaw most before place is r rs at bad = record {
  few = 0;
  r = r;
  there = refl;
  place_is = omega (arith, at);
  bad = elim bad [ inl high ↦ inl (omega (arith, high.0), high.1) | inr b ↦ inr (omega (arith, b.0), b.1) ];
  fine = no_fine flaw most before (r ∷ rs);
}

more_fine : (flaw : Record → Option Flaw) (most before few : ℕ) (r : Record) (rs : List Record) → flaw r ≡ None → before ≤ most → ((k : ℕ) → k < few → Fine flaw most (before + 1) rs k)
    → (k : ℕ) → k < suc few → Fine flaw most before (r ∷ rs) k
more_fine flaw most before few r rs good low fine zero lt = record { r = r; there = refl; good = good; low = omega (arith, low) }
more_fine flaw most before few r rs good low fine (suc k) lt =
    let f = fine k (omega (arith, lt)) in
    let deep = f.low in
    record { r = f.r; there = f.there; good = f.good; low = omega (arith, deep) }

found_more : (flaw : Record → Option Flaw) (most before place : ℕ) (is : Flaw) (r : Record) (rs : List Record) → flaw r ≡ None → before ≤ most → Found flaw most (before + 1) place is rs → Found flaw most before place is (r ∷ rs)
found_more flaw most before place is r rs good low f =
    let at = f.place_is in
    record {
      few = suc f.few;
      r = f.r;
      there = f.there;
      place_is = omega (arith, at);
      bad = elim f.bad [ inl high ↦ inl (omega (arith, high.0), high.1) | inr b ↦ inr (omega (arith, b.0), b.1) ];
      fine = more_fine flaw most before f.few r rs good low f.fine;
    }

-- the number and the flaw of one trouble
abbrev number_in : Option Trouble → ℕ
number_in None = 0
number_in (Some trouble) = trouble.0

abbrev flaw_told : Option Trouble → Option Flaw
flaw_told None = None
flaw_told (Some trouble) = Some trouble.1

pub some_flaw : (x y : Flaw) → Some x ≡ Some y → x ≡ y
some_flaw x y e = cc

pub same_trouble : (a b : ℕ) (x y : Flaw) → some_trouble a x ≡ some_trouble b y → (a ≡ b) × (x ≡ y)
same_trouble a b x y e = (ap number_in e, some_flaw x y (ap flaw_told e))

pub none_some : {A : Type 0} (x : A) → None ≡ Some x → ⊥
none_some x e = cc

pub found : (flaw : Record → Option Flaw) (most before place : ℕ) (is : Flaw) (rs : List Record) → record_fault flaw most before rs ≡ Some (place, is) → Found flaw most before place is rs
found flaw most before place is [] e = absurd (none_some (place, is) e)
found flaw most before place is (r ∷ rs) e = by (nat_le before most) (flaw r) refl refl (found flaw most (before + 1) place is rs)
  where
    by : (a : Bool) (b : Option Flaw) → nat_le before most ≡ a → flaw r ≡ b → (record_fault flaw most (before + 1) rs ≡ Some (place, is) → Found flaw most (before + 1) place is rs)
        → Found flaw most before place is (r ∷ rs)
    by false b p q rec =
        let high : most < before = grind (arith, nat_tests, p) in
        let same = same_trouble (before + 1) place OneTooMany is (sym (fault-many flaw most before r rs high) ∙ e) in
        found_first flaw most before place is r rs same.0 (inl (high, sym same.1))
    by true (Some x) p q rec =
        let low : before ≤ most = grind (arith, nat_tests, p) in
        let same = same_trouble (before + 1) place x is (sym (fault-bad flaw most before r rs x low q) ∙ e) in
        found_first flaw most before place is r rs same.0 (inr (low, q ∙ ap Some same.1))
    by true None p q rec =
        let low : before ≤ most = grind (arith, nat_tests, p) in
        found_more flaw most before place is r rs q low (rec (sym (fault-good flaw most before r rs low q) ∙ e))

-- where none is found each record is fine
pub all_fine : (flaw : Record → Option Flaw) (most before : ℕ) (rs : List Record) → record_fault flaw most before rs ≡ None → (k : ℕ) (r : Record) → record_behind k rs ≡ Some r → (flaw r ≡ None) × (before + k ≤ most)
all_fine flaw most before [] e zero r there = absurd (none_some r there)
all_fine flaw most before [] e (suc k) r there = absurd (none_some r there)
all_fine flaw most before (q ∷ rs) e k r there = by (nat_le before most) (flaw q) refl refl k there (all_fine flaw most (before + 1) rs)
  where
    by : (a : Bool) (b : Option Flaw) → nat_le before most ≡ a → flaw q ≡ b → (k : ℕ) → record_behind k (q ∷ rs) ≡ Some r
        → (record_fault flaw most (before + 1) rs ≡ None → (k : ℕ) (r : Record) → record_behind k rs ≡ Some r → (flaw r ≡ None) × (before + 1 + k ≤ most)) → (flaw r ≡ None) × (before + k ≤ most)
    by false b p q_is k there rec =
        let high : most < before = grind (arith, nat_tests, p) in
        absurd (none_some _ (sym e ∙ fault-many flaw most before q rs high))
    by true (Some x) p q_is k there rec =
        let low : before ≤ most = grind (arith, nat_tests, p) in
        absurd (none_some _ (sym e ∙ fault-bad flaw most before q rs x low q_is))
    by true None p q_is zero there rec =
        let low : before ≤ most = grind (arith, nat_tests, p) in
        let same : q ≡ r = cc in
        (ap flaw (sym same) ∙ q_is, omega (arith, low))
    by true None p q_is (suc k) there rec =
        let low : before ≤ most = grind (arith, nat_tests, p) in
        let more = rec (sym (fault-good flaw most before q rs low q_is) ∙ e) k r there in
        (more.0, omega (arith, more.1))

-- ---- a record where it stands

pub first_alone : (f : Option Flaw) → first_flaw f None ≡ f
first_alone None = refl
first_alone (Some flaw) = refl

pub placed_row : (first row : Option Flaw) (most place : ℕ) → 1 < place → place ≤ most + 1 → placed_flaw first most row place ≡ row
placed_row first row most place late low =
    let a : nat_le place 1 ≡ false = grind (arith, nat_tests) in
    let b : nat_lt (most + 1) place ≡ false = grind (arith, nat_tests) in
    rw (a, b) refl

pub placed_many : (first row : Option Flaw) (most place : ℕ) → 1 < place → most + 1 < place → placed_flaw first most row place ≡ Some OneTooMany
placed_many first row most place late high =
    let a : nat_le place 1 ≡ false = grind (arith, nat_tests) in
    let b : nat_lt (most + 1) place ≡ true = grind (arith, nat_tests) in
    rw (a, b) refl

-- no place is before the first
pub none_before : (source : Source) (rs : List Record) (k : ℕ) → 1 ≤ k → k < 1 → flaw_at source rs k ≡ None
none_before source rs k from lt = absurd (omega (arith, from, lt))

-- a source whose first record has one grammar and all others another, by themselves
pub record IsPlain (source : Source) (first row : Record → Option Flaw) (most : ℕ) : Type 0 where
  pub alone : (place : ℕ) (r : Record) → flaw_alone source place r ≡ placed_flaw (first r) most (row r) place
  pub beside : (name : Field) (place : ℕ) (rs : List Record) → flaw_beside source name place rs ≡ None

flaw_is : (source : Source) (first row : Record → Option Flaw) (most : ℕ) → IsPlain source first row most → (rs : List Record) (few : ℕ) (r : Record) → record_behind few rs ≡ Some r
    → flaw_at source rs (suc few) ≡ placed_flaw (first r) most (row r) (suc few)
flaw_is source first row most plain rs few r there =
    ap (flaw_there source (suc few) rs) there
    ∙ ap (first_flaw (flaw_alone source (suc few) r)) (plain.beside _ (suc few) rs)
    ∙ first_alone (flaw_alone source (suc few) r)
    ∙ plain.alone (suc few) r

first_at : (source : Source) (first row : Record → Option Flaw) (most : ℕ) → IsPlain source first row most → (r : Record) (rs : List Record) → flaw_at source (r ∷ rs) 1 ≡ first r
first_at source first row most plain r rs = flaw_is source first row most plain (r ∷ rs) 0 r refl

row_at : (source : Source) (first row : Record → Option Flaw) (most : ℕ) → IsPlain source first row most → (header : Record) (rs : List Record) (k : ℕ) (r : Record) → record_behind k rs ≡ Some r → 1 + k ≤ most
    → flaw_at source (header ∷ rs) (suc (suc k)) ≡ row r
row_at source first row most plain header rs k r there low =
    flaw_is source first row most plain (header ∷ rs) (suc k) r there ∙ placed_row (first r) (row r) most (suc (suc k)) (omega arith) (omega (arith, low))

row_past : (source : Source) (first row : Record → Option Flaw) (most : ℕ) → IsPlain source first row most → (header : Record) (rs : List Record) (k : ℕ) (r : Record) → record_behind k rs ≡ Some r → most < 1 + k
    → flaw_at source (header ∷ rs) (suc (suc k)) ≡ Some OneTooMany
row_past source first row most plain header rs k r there high =
    flaw_is source first row most plain (header ∷ rs) (suc k) r there ∙ placed_many (first r) (row r) most (suc (suc k)) (omega arith) (omega (arith, high))

bad_row : (source : Source) (first row : Record → Option Flaw) (most : ℕ) → IsPlain source first row most → (header : Record) (rs : List Record) (few : ℕ) (r : Record) (is : Flaw) → record_behind few rs ≡ Some r
    → IsBad row most (1 + few) r is → flaw_at source (header ∷ rs) (suc (suc few)) ≡ Some is
bad_row source first row most plain header rs few r is there (inl (high, many)) = row_past source first row most plain header rs few r there high ∙ ap Some (sym many)
bad_row source first row most plain header rs few r is there (inr (low, wrong)) = row_at source first row most plain header rs few r there low ∙ wrong

good_rows : (source : Source) (first row : Record → Option Flaw) (most : ℕ) → IsPlain source first row most → (header : Record) (rs : List Record) (few : ℕ) → first header ≡ None
    → ((k : ℕ) → k < few → Fine row most 1 rs k) → (k : ℕ) → 1 ≤ k → k < suc (suc few) → flaw_at source (header ∷ rs) k ≡ None
good_rows source first row most plain header rs few head fine zero from lt = absurd (omega (arith, from))
good_rows source first row most plain header rs few head fine (suc zero) from lt = first_at source first row most plain header rs ∙ head
good_rows source first row most plain header rs few head fine (suc (suc k)) from lt =
    let f = fine k (omega (arith, lt)) in
    row_at source first row most plain header rs k f.r f.there f.low ∙ f.good

-- the fault of a file without records, and that of a first record that is another
pub empty_flawed : (source : Source) (place : ℕ) (is : Flaw) → some_trouble 1 Missing ≡ some_trouble place is → IsFirstFlaw source [] place is
empty_flawed source place is e =
    let same = same_trouble 1 place Missing is e in
    rw (← same.0) (ap Some same.1, none_before source [])

pub header_flawed : (source : Source) (header : Record) (rs : List Record) (place : ℕ) (x is : Flaw) → flaw_at source (header ∷ rs) 1 ≡ Some x → some_trouble 1 x ≡ some_trouble place is → IsFirstFlaw source (header ∷ rs) place is
header_flawed source header rs place x is at e =
    let same = same_trouble 1 place x is e in
    rw (← same.0) (at ∙ ap Some same.1, none_before source (header ∷ rs))

plain_flawed : (source : Source) (first row : Record → Option Flaw) (most : ℕ) → IsPlain source first row most → (rs : List Record) (place : ℕ) (is : Flaw) → file_fault first row most rs ≡ Some (place, is)
    → IsFirstFlaw source rs place is
plain_flawed source first row most plain [] place is e = empty_flawed source place is e
plain_flawed source first row most plain (header ∷ rs) place is e = by (first header) refl
  where
    by : (o : Option Flaw) → first header ≡ o → IsFirstFlaw source (header ∷ rs) place is
    by (Some x) head = header_flawed source header rs place x is (first_at source first row most plain header rs ∙ head) (rw head at e)
    by None head =
        let f = found row most 1 place is rs (rw head at e) in
        let place_is = f.place_is in
        let at : suc (suc f.few) ≡ place = omega (arith, place_is) in
        rw (← at) (
          bad_row source first row most plain header rs f.few f.r is f.there f.bad,
          good_rows source first row most plain header rs f.few head f.fine,
        )

pub messages_flawed : (rs : List Record) (place : ℕ) (flaw : Flaw) → messages_fault rs ≡ Some (place, flaw) → IsFirstFlaw Messages rs place flaw
messages_flawed = plain_flawed Messages messages_header_flaw message_flaw most_messages (record { alone = λ place r. refl; beside = λ name place rs. refl })

pub schedule_flawed : (rs : List Record) (place : ℕ) (flaw : Flaw) → schedule_fault rs ≡ Some (place, flaw) → IsFirstFlaw Schedule rs place flaw
schedule_flawed = plain_flawed Schedule world_flaw event_flaw most_events (record { alone = λ place r. refl; beside = λ name place rs. refl })
