-- The first faulty record of an accounts file: it is none, it is one too many, or a record before it has its name.
use Rattle.std.proofs.Common.{◌≡◌, ◌∙◌, sym, refl, ap, ℕ, zero, suc, ◌+◌, ◌-◌, ◌<◌, ◌≤◌, ◌⊎◌, inl, inr, Bool, true, false, List, [], ◌∷◌, ◌++◌, Option, Some, None, arith, append_assoc}
use Rattle.std.specs.Prelude.{nat_le, if◌then◌else◌}
use Rattle.std.specs.Str.{bytes_eq}
use Rattle.std.proofs.lemmas.Bool.Decides.{nat_tests}
use Rattle.std.proofs.lemmas.List.{append-nil}
use Rattle.sms_core.specs.Limits.{most_accounts}
use Rattle.sms_files.specs.Accounts.{account_flaw, accounts_fault, accounts_header_flaw, name_in, new_account_flaw, rest_fault, some_fault, taken_flaw}
use Rattle.sms_files.specs.FieldFlaws.{first_flaw}
use Rattle.sms_files.specs.Fields.{Field, Record}
use Rattle.sms_files.specs.Flaws.{IsFirstFlaw, first_named, flaw_at, flaw_beside, flaw_there, record_behind}
use Rattle.sms_files.specs.Records.{some_trouble}
use Rattle.sms_files.specs.declared.fault.Source.TheVariants.{Accounts}
use Rattle.sms_files.specs.declared.flaw.Flaw.{Flaw}
use Rattle.sms_files.specs.declared.flaw.Flaw.TheVariants.{Missing, OneTooMany, Taken}
use Rattle.sms_files.proofs.FirstFlaws.{empty_flawed, first_alone, header_flawed, none_some, placed_many, placed_row, same_trouble}

-- these names, and those of the first so many records
abbrev pub names_after : List Field → ℕ → List Record → List Field
names_after names zero rs = names
names_after names (suc few) [] = names
names_after names (suc few) (r ∷ rs) = names_after (names ++ name_in r ∷ []) few rs

-- the flaw of a record after so many, with these names before them
abbrev pub flaw_after : List Field → ℕ → List Record → Record → Option Flaw
flaw_after names few rs r = new_account_flaw (names_after names few rs) r

-- the record after so many is an account with a new name, and within the limit
pub record FineAccount (names : List Field) (before : ℕ) (rs : List Record) (k : ℕ) : Type 0 where
  pub r : Record
  pub there : record_behind k rs ≡ Some r
  pub good : flaw_after names k rs r ≡ None
  pub low : before + k ≤ most_accounts

-- why a record has this flaw there
abbrev pub IsBadAccount : List Field → ℕ → ℕ → List Record → Record → Flaw → Type 0
IsBadAccount names before few rs r is =
    ((most_accounts < before + few) × (is ≡ OneTooMany)) ⊎ ((before + few ≤ most_accounts) × (flaw_after names few rs r ≡ Some is))

pub record FoundAccount (names : List Field) (before place : ℕ) (is : Flaw) (rs : List Record) : Type 0 where
  pub few : ℕ
  pub r : Record
  pub there : record_behind few rs ≡ Some r
  pub place_is : place ≡ before + few + 1
  pub bad : IsBadAccount names before few rs r is
  pub fine : (k : ℕ) → k < few → FineAccount names before rs k

no_fine_account : (names : List Field) (before : ℕ) (rs : List Record) (k : ℕ) → k < 0 → FineAccount names before rs k
no_fine_account names before rs k lt = absurd (omega (arith, lt))

account_first : (names : List Field) (before place : ℕ) (is : Flaw) (r : Record) (rs : List Record) → before + 1 ≡ place → IsBadAccount names before 0 (r ∷ rs) r is → FoundAccount names before place is (r ∷ rs)
account_first names before place is r rs at bad = record {
  few = 0;
  r = r;
  there = refl;
  place_is = omega (arith, at);
  bad = bad;
  fine = no_fine_account names before (r ∷ rs);
}

more_accounts : (names : List Field) (before few : ℕ) (r : Record) (rs : List Record) → new_account_flaw names r ≡ None → before ≤ most_accounts
    → ((k : ℕ) → k < few → FineAccount (names ++ name_in r ∷ []) (before + 1) rs k) → (k : ℕ) → k < suc few → FineAccount names before (r ∷ rs) k
more_accounts names before few r rs good low fine zero lt = record { r = r; there = refl; good = good; low = omega (arith, low) }
more_accounts names before few r rs good low fine (suc k) lt =
    let f = fine k (omega (arith, lt)) in
    let deep = f.low in
    record { r = f.r; there = f.there; good = f.good; low = omega (arith, deep) }

account_more : (names : List Field) (before place : ℕ) (is : Flaw) (r : Record) (rs : List Record) → new_account_flaw names r ≡ None → before ≤ most_accounts
    → FoundAccount (names ++ name_in r ∷ []) (before + 1) place is rs → FoundAccount names before place is (r ∷ rs)
account_more names before place is r rs good low f =
    let at = f.place_is in
    record {
      few = suc f.few;
      r = f.r;
      there = f.there;
      place_is = omega (arith, at);
      bad = elim f.bad [ inl high ↦ inl (omega (arith, high.0), high.1) | inr b ↦ inr (omega (arith, b.0), b.1) ];
      fine = more_accounts names before f.few r rs good low f.fine;
    }

-- by the tests of the next record
goes_on : (names : List Field) (before : ℕ) (r : Record) (rs : List Record) → nat_le before most_accounts ≡ true → new_account_flaw names r ≡ None
    → rest_fault names before (r ∷ rs) ≡ rest_fault (names ++ name_in r ∷ []) (before + 1) rs
goes_on names before r rs p q = rw (p, q) refl

stops_many : (names : List Field) (before : ℕ) (r : Record) (rs : List Record) → nat_le before most_accounts ≡ false → rest_fault names before (r ∷ rs) ≡ Some (before + 1, OneTooMany)
stops_many names before r rs p = rw p refl

stops_bad : (names : List Field) (before : ℕ) (r : Record) (rs : List Record) (x : Flaw) → nat_le before most_accounts ≡ true → new_account_flaw names r ≡ Some x → rest_fault names before (r ∷ rs) ≡ Some (before + 1, x)
stops_bad names before r rs x p q = rw (p, q) refl

pub found_account : (names : List Field) (before place : ℕ) (is : Flaw) (rs : List Record) → rest_fault names before rs ≡ Some (place, is) → FoundAccount names before place is rs
found_account names before place is [] e = absurd (none_some (place, is) e)
found_account names before place is (r ∷ rs) e =
    by (nat_le before most_accounts) (new_account_flaw names r) refl refl (found_account (names ++ name_in r ∷ []) (before + 1) place is rs)
  where
    by : (a : Bool) (b : Option Flaw) → nat_le before most_accounts ≡ a → new_account_flaw names r ≡ b
        → (rest_fault (names ++ name_in r ∷ []) (before + 1) rs ≡ Some (place, is) → FoundAccount (names ++ name_in r ∷ []) (before + 1) place is rs) → FoundAccount names before place is (r ∷ rs)
    by false b p q rec =
        let high : most_accounts < before + 0 = grind (arith, nat_tests, p) in
        let same = same_trouble (before + 1) place OneTooMany is (sym (stops_many names before r rs p) ∙ e) in
        account_first names before place is r rs same.0 (inl (high, sym same.1))
    by true (Some x) p q rec =
        let low : before + 0 ≤ most_accounts = grind (arith, nat_tests, p) in
        let same = same_trouble (before + 1) place x is (sym (stops_bad names before r rs x p q) ∙ e) in
        account_first names before place is r rs same.0 (inr (low, q ∙ ap Some same.1))
    by true None p q rec =
        let low : before ≤ most_accounts = grind (arith, nat_tests, p) in
        account_more names before place is r rs q low (rec (sym (goes_on names before r rs p q) ∙ e))

-- the names of the first so many records
abbrev pub front_names : ℕ → List Record → List Field
front_names zero rs = []
front_names (suc few) [] = []
front_names (suc few) (r ∷ rs) = name_in r ∷ front_names few rs

after_front : (names : List Field) (few : ℕ) (rs : List Record) → names_after names few rs ≡ names ++ front_names few rs
after_front names zero rs = sym (append-nil names)
after_front names (suc few) [] = sym (append-nil names)
after_front names (suc few) (r ∷ rs) = after_front (names ++ name_in r ∷ []) few rs ∙ append_assoc names (name_in r ∷ []) (front_names few rs)

-- the first of them that is a name is that of the first record of the name
taken_named : (name : Field) (number few : ℕ) (rs : List Record) → taken_flaw number name (front_names few rs) ≡ first_named name number few rs
taken_named name number zero rs = refl
taken_named name number (suc few) [] = refl
taken_named name number (suc few) (r ∷ rs) = ap (λ o. if bytes_eq (name_in r) name then Some (Taken number) else o) (taken_named name (number + 1) few rs)

-- ---- an account where it stands

beside_at : (header : Record) (rs : List Record) (k : ℕ) (name : Field) → flaw_beside Accounts name (suc (suc k)) (header ∷ rs) ≡ taken_flaw 2 name (names_after [] k rs)
beside_at header rs k name =
    let same : suc (suc k) - 2 ≡ k = omega arith in
    ap (λ n. first_named name 2 n rs) same ∙ sym (taken_named name 2 k rs) ∙ ap (taken_flaw 2 name) (sym (after_front [] k rs))

-- one after the header
account_at : (header : Record) (rs : List Record) (k : ℕ) (r : Record) → record_behind k rs ≡ Some r → 1 + k ≤ most_accounts
    → flaw_at Accounts (header ∷ rs) (suc (suc k)) ≡ flaw_after [] k rs r
account_at header rs k r there low =
    ap (flaw_there Accounts (suc (suc k)) (header ∷ rs)) there
    ∙ ap (λ f. first_flaw f (flaw_beside Accounts (name_in r) (suc (suc k)) (header ∷ rs)))
    (placed_row (accounts_header_flaw r) (account_flaw r) most_accounts (suc (suc k)) (omega arith) (omega (arith, low)))
    ∙ ap (first_flaw (account_flaw r)) (beside_at header rs k (name_in r))

account_past : (header : Record) (rs : List Record) (k : ℕ) (r : Record) → record_behind k rs ≡ Some r → most_accounts < 1 + k → flaw_at Accounts (header ∷ rs) (suc (suc k)) ≡ Some OneTooMany
account_past header rs k r there high =
    ap (flaw_there Accounts (suc (suc k)) (header ∷ rs)) there
    ∙ ap (λ f. first_flaw f (flaw_beside Accounts (name_in r) (suc (suc k)) (header ∷ rs)))
    (placed_many (accounts_header_flaw r) (account_flaw r) most_accounts (suc (suc k)) (omega arith) (omega (arith, high)))

bad_account : (header : Record) (rs : List Record) (few : ℕ) (r : Record) (is : Flaw) → record_behind few rs ≡ Some r → IsBadAccount [] 1 few rs r is → flaw_at Accounts (header ∷ rs) (suc (suc few)) ≡ Some is
bad_account header rs few r is there (inl (high, many)) = account_past header rs few r there high ∙ ap Some (sym many)
bad_account header rs few r is there (inr (low, wrong)) = account_at header rs few r there low ∙ wrong

-- the header
header_at : (header : Record) (rs : List Record) → flaw_at Accounts (header ∷ rs) 1 ≡ accounts_header_flaw header
header_at header rs = first_alone (accounts_header_flaw header)

good_accounts : (header : Record) (rs : List Record) (few : ℕ) → accounts_header_flaw header ≡ None → ((k : ℕ) → k < few → FineAccount [] 1 rs k)
    → (k : ℕ) → 1 ≤ k → k < suc (suc few) → flaw_at Accounts (header ∷ rs) k ≡ None
good_accounts header rs few head fine zero from lt = absurd (omega (arith, from))
good_accounts header rs few head fine (suc zero) from lt = header_at header rs ∙ head
good_accounts header rs few head fine (suc (suc k)) from lt =
    let f = fine k (omega (arith, lt)) in
    account_at header rs k f.r f.there f.low ∙ f.good

-- a header alone
alone : (header : Record) (place : ℕ) (is : Flaw) → accounts_header_flaw header ≡ None → some_trouble 2 Missing ≡ some_trouble place is → IsFirstFlaw Accounts (header ∷ []) place is
alone header place is head e =
    let same = same_trouble 2 place Missing is e in
    rw (← same.0) (ap Some same.1, first)
  where
    first : (k : ℕ) → 1 ≤ k → k < 2 → flaw_at Accounts (header ∷ []) k ≡ None
    first zero from lt = absurd (omega (arith, from))
    first (suc zero) from lt = header_at header [] ∙ head
    first (suc (suc k)) from lt = absurd (omega (arith, lt))

behind : (header : Record) (rs : List Record) (place : ℕ) (is : Flaw) → accounts_header_flaw header ≡ None → some_fault rs ≡ Some (place, is) → IsFirstFlaw Accounts (header ∷ rs) place is
behind header [] place is head e = alone header place is head e
behind header (r ∷ rs) place is head e =
    let f = found_account [] 1 place is (r ∷ rs) e in
    let place_is = f.place_is in
    let at : suc (suc f.few) ≡ place = omega (arith, place_is) in
    rw (← at) (bad_account header (r ∷ rs) f.few f.r is f.there f.bad, good_accounts header (r ∷ rs) f.few head f.fine)

pub accounts_flawed : (rs : List Record) (place : ℕ) (flaw : Flaw) → accounts_fault rs ≡ Some (place, flaw) → IsFirstFlaw Accounts rs place flaw
accounts_flawed [] place is e = empty_flawed Accounts place is e
accounts_flawed (header ∷ rs) place is e = by (accounts_header_flaw header) refl
  where
    by : (o : Option Flaw) → accounts_header_flaw header ≡ o → IsFirstFlaw Accounts (header ∷ rs) place is
    by (Some x) head = header_flawed Accounts header rs place x is (header_at header rs ∙ head) (rw head at e)
    by None head = behind header rs place is head (rw head at e)
