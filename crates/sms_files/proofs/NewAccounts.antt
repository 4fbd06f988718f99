-- Which records of an accounts file are new accounts, and what is faulty where one is or isn't.
use Rattle.std.proofs.Common.{◌≡◌, ◌∙◌, sym, refl, ap, ℕ, ◌+◌, ◌<◌, ◌≤◌, inl, inr, Bool, true, false, List, [], ◌∷◌, ◌++◌, length, Option, Some, None, arith}
use Rattle.std.specs.List.{AllZip}
use Rattle.std.specs.Prelude.{nat_le, string_bytes, Result, Ok, Err}
use Rattle.std.proofs.lemmas.Bool.Decides.{nat_tests}
use Rattle.std.proofs.lemmas.List.{map-append}
use Rattle.csv.specs.Records.{field_at}
use Rattle.sms_core.specs.Limits.{most_accounts}
use Rattle.sms_book.specs.Openings.{names_of}
use Rattle.sms_book.specs.declared.opening.Opening.{Opening}
use Rattle.sms_files.specs.Accounts.{AreAccounts, SaysAccount, account_flaw, accounts_fault, is_accounts_header, name_in, new_account_flaw, rest_fault, some_fault, taken_flaw}
use Rattle.sms_files.specs.Fields.{Field, Record, text_in}
use Rattle.sms_files.specs.Records.{IsReadAs, TellsRecords, Trouble}
use Rattle.sms_files.specs.declared.fault.InputFault.{InputFault}
use Rattle.sms_files.specs.declared.fault.Source.TheVariants.{Accounts}
use Rattle.sms_files.specs.declared.flaw.Flaw.{Flaw}
use Rattle.sms_files.specs.declared.flaw.Flaw.TheVariants.{Header, Missing, OneTooMany}
use Rattle.sms_files.specs.declared.tables.records.RowFault.{RowFault}
use Rattle.sms_files.specs.declared.tables.records.RowFault.TheVariants.{Flawed}
use Rattle.sms_files.proofs.MessageRecords.{text-is}
use Rattle.sms_files.proofs.Runs.{flaw-read, names-record, was-read}

-- the name of a record is the text of its first field
pub name-read : (r : Record) (name : Field) → text_in r 0 ≡ Some name → name_in r ≡ name
unfolding field_at
name-read [] name e = cc
name-read (field ∷ fields) name e = sym (text-is field name e).1

-- by what a record was read as, it is a new account or has a flaw
pub no-account : (names : List Field) (r : Record) (flaw : Flaw) → account_flaw r ≡ Some flaw → new_account_flaw names r ≡ Some flaw
no-account names r flaw e = rw e refl

pub beside : (names : List Field) (r : Record) (name : Field) (o : Option Flaw) → account_flaw r ≡ None → text_in r 0 ≡ Some name → taken_flaw 2 name names ≡ o → new_account_flaw names r ≡ o
beside names r name o e t taken = rw e (ap (λ n. taken_flaw 2 n names) (name-read r name t) ∙ taken)

-- no flaw was found
pub not_some : (o : Option Flaw) → ((x : Flaw) → ¬ (o ≡ Some x)) → o ≡ None
not_some None h = refl
not_some (Some x) h = absurd (h x refl)

-- the same where the names are those of accounts that were shown
pub read-flaw : (shown openings : List Opening) (r : Record) (o : Result Opening RowFault) (fault : RowFault) (flaw : Flaw) → shown ≡ openings → IsReadAs (new_account_flaw (names_of shown)) SaysAccount r o → o ≡ Err fault
    → fault ≡ Flawed flaw → new_account_flaw (names_of openings) r ≡ Some flaw
read-flaw shown openings r o fault flaw s h e is = ap (λ os. new_account_flaw (names_of os) r) (sym s) ∙ flaw-read (new_account_flaw (names_of shown)) SaysAccount r o fault flaw h e is

pub read-new : (shown openings : List Opening) (r : Record) (o : Result Opening RowFault) (x : Opening) → shown ≡ openings → IsReadAs (new_account_flaw (names_of shown)) SaysAccount r o → o ≡ Ok x
    → (new_account_flaw (names_of openings) r ≡ None) × SaysAccount r x
read-new shown openings r o x s h e =
    let read = was-read (new_account_flaw (names_of shown)) SaysAccount r o x h e in
    (ap (λ os. new_account_flaw (names_of os) r) (sym s) ∙ read.0, read.1)

-- the first faulty record, by the one that stands next

goes-on : (names : List Field) (before : ℕ) (r : Record) (rs : List Record) → before ≤ most_accounts → new_account_flaw names r ≡ None
    → rest_fault names before (r ∷ rs) ≡ rest_fault (names ++ name_in r ∷ []) (before + 1) rs
goes-on names before r rs low new = let few : nat_le before most_accounts ≡ true = grind (arith, nat_tests) in rw (few, new) refl

pub stops-bad : (names : List Field) (before : ℕ) (r : Record) (rs : List Record) (flaw : Flaw) → before ≤ most_accounts → new_account_flaw names r ≡ Some flaw → rest_fault names before (r ∷ rs) ≡ Some (before + 1, flaw)
stops-bad names before r rs flaw low bad = let few : nat_le before most_accounts ≡ true = grind (arith, nat_tests) in rw (few, bad) refl

pub stops-many : (names : List Field) (before : ℕ) (r : Record) (rs : List Record) → most_accounts < before → rest_fault names before (r ∷ rs) ≡ Some (before + 1, OneTooMany)
stops-many names before r rs high = let many : nat_le before most_accounts ≡ false = grind (arith, nat_tests) in rw many refl

-- the names with that of one more account
names-more : (openings pushed : List Opening) (r : Record) (x : Opening) → pushed ≡ openings ++ x ∷ [] → SaysAccount r x → names_of openings ++ name_in r ∷ [] ≡ names_of pushed
names-more openings pushed r x p says =
    ap (λ (n : Field). names_of openings ++ n ∷ []) (name-read r (string_bytes x.name) says.0)
    ∙ sym (map-append (λ (o : Opening). string_bytes o.name) openings (x ∷ [])) ∙ ap names_of (sym p)

pub one-account : (openings pushed : List Opening) (before : ℕ) (r : Record) (x : Opening) (rs : List Record) → before ≤ most_accounts → new_account_flaw (names_of openings) r ≡ None → SaysAccount r x
    → pushed ≡ openings ++ x ∷ [] → rest_fault (names_of openings) before (r ∷ rs) ≡ rest_fault (names_of pushed) (before + 1) rs
one-account openings pushed before r x rs low new says p =
    goes-on (names_of openings) before r rs low new ∙ ap (λ (ns : List Field). rest_fault ns (before + 1) rs) (names-more openings pushed r x p says)

-- the first faulty record of a file, by its header

pub bad-header : (r : Record) (rs : List Record) → is_accounts_header r ≡ false → accounts_fault (r ∷ rs) ≡ Some (1, Header)
bad-header r rs e = rw e refl

good-header : (r : Record) (rs : List Record) → is_accounts_header r ≡ true → accounts_fault (r ∷ rs) ≡ some_fault rs
good-header r rs e = rw e refl

some-bad : (rs : List Record) (trouble : Trouble) → rest_fault [] 1 rs ≡ Some trouble → some_fault rs ≡ Some trouble
some-bad [] trouble e = cc
some-bad (r ∷ rs) trouble e = e

pub tells-rest : (r : Record) (rs : List Record) (f : InputFault) → is_accounts_header r ≡ true → TellsRecords Accounts (rest_fault [] 1 rs) f → TellsRecords Accounts (accounts_fault (r ∷ rs)) f
tells-rest r rs f good h = elim h [
  | inl device ↦ inl device
  | inr bad ↦ let (place, flaw, named, found) = bad in names-record Accounts place flaw _ f named (good-header r rs good ∙ some-bad rs (place, flaw) found)
]

-- no account was read
pub no-accounts : (r : Record) (rs : List Record) (openings : List Opening) → is_accounts_header r ≡ true → length openings ≡ 0 → AllZip SaysAccount rs openings → accounts_fault (r ∷ rs) ≡ Some (2, Missing)
no-accounts r [] os good none h = good-header r [] good
no-accounts r (a ∷ rs) [] good none h = absurd h
no-accounts r (a ∷ rs) (o ∷ os) good none h = absurd (omega (arith, none))

some-good : (rs : List Record) (openings : List Opening) → 0 < length openings → AllZip SaysAccount rs openings → rest_fault [] 1 rs ≡ None → some_fault rs ≡ None
some-good [] [] some h e = absurd (omega (arith, some))
some-good [] (o ∷ os) some h e = absurd h
some-good (r ∷ rs) os some h e = e

pub are-accounts : (r : Record) (rs : List Record) (openings : List Opening) → is_accounts_header r ≡ true → 0 < length openings → AllZip SaysAccount rs openings → rest_fault [] 1 rs ≡ None
    → AreAccounts (r ∷ rs) openings
are-accounts r rs os good some h e = (good-header r rs good ∙ some-good rs os some h e, h)
