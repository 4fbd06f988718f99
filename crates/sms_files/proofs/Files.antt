-- A file, from its first record and those after it.
use Rattle.std.proofs.Common.{◌≡◌, ◌∙◌, refl, ap, ℕ, inl, inr, Bool, true, false, List, [], ◌∷◌, Option, Some, None, IfSome}
use Rattle.std.specs.Prelude.{option_map}
use Rattle.sms_files.specs.Fields.{Record, records_of}
use Rattle.sms_files.specs.Records.{GivesFirst, IsBadRecord, TellsRecords, file_fault, record_fault}
use Rattle.sms_files.specs.Rows.{header_of}
use Rattle.sms_files.specs.declared.fault.InputFault.{InputFault}
use Rattle.sms_files.specs.declared.fault.Source.{Source}
use Rattle.sms_files.specs.declared.flaw.Flaw.{Flaw}
use Rattle.sms_files.specs.declared.flaw.Flaw.TheVariants.{Header, Missing}
use Rattle.sms_files.proofs.Runs.{first-found, names-record, none-found}

-- what holds of a file without records, and of one with a first record and those after it

pub told-empty : (P : List Record → Type 0) (o : Option (List ℕ)) (left : Option (List Record)) (found : Bool) (r : Record) (after : Option (List Record))
    → left ≡ option_map records_of o → IfSome left (λ rs. GivesFirst rs found r after) → found ≡ false → P [] → IfSome o (λ bytes. P (records_of bytes))
told-empty P None left found r after whole h e p = tt
told-empty P (Some bytes) left found r after whole h e p =
    let none = none-found (records_of bytes) found r after (rw whole at h) e in
    rw none p

pub told-first : (P Q : List Record → Type 0) (o : Option (List ℕ)) (left : Option (List Record)) (found : Bool) (r : Record) (after : Option (List Record))
    → left ≡ option_map records_of o → IfSome left (λ rs. GivesFirst rs found r after) → found ≡ true
    → IfSome after Q → ((rs : List Record) → Q rs → P (r ∷ rs)) → IfSome o (λ bytes. P (records_of bytes))
told-first P Q None left found r after whole h e rest make = tt
told-first P Q (Some bytes) left found r after whole h e rest make =
    let (others, stood, left_are) = first-found (records_of bytes) found r after (rw whole at h) e in
    let made = make others (rw left_are at rest) in
    rw stood made

-- what holds of the records that a reader has before it reads holds of those of its input
pub of-input : (P : List Record → Type 0) (o : Option (List ℕ)) (left : Option (List Record)) → left ≡ option_map records_of o → IfSome left P → IfSome o (λ bytes. P (records_of bytes))
of-input P None left whole h = tt
of-input P (Some bytes) left whole h = rw whole at h

-- there is no first record
pub no-record : (source : Source) (first flaw : Record → Option Flaw) (most : ℕ) (left : Option (List Record)) (found : Bool) (r : Record) (after : Option (List Record)) (f : InputFault)
    → IfSome left (λ rs. GivesFirst rs found r after) → found ≡ false → IsBadRecord source 1 Missing f → IfSome left (λ rs. TellsRecords source (file_fault first flaw most rs) f)
no-record source first flaw most None found r after f h e bad = tt
no-record source first flaw most (Some rs) found r after f h e bad =
    names-record source 1 Missing _ f bad (ap (file_fault first flaw most) (none-found rs found r after h e))

stops : (first flaw : Record → Option Flaw) (most : ℕ) (r : Record) (rs : List Record) (is : Flaw) → first r ≡ Some is → file_fault first flaw most (r ∷ rs) ≡ Some (1, is)
stops first flaw most r rs is e = rw e refl

goes-on : (first flaw : Record → Option Flaw) (most : ℕ) (r : Record) (rs : List Record) → first r ≡ None → file_fault first flaw most (r ∷ rs) ≡ record_fault flaw most 1 rs
goes-on first flaw most r rs e = rw e refl

-- the first record is another
pub bad-first : (source : Source) (first flaw : Record → Option Flaw) (most : ℕ) (left : Option (List Record)) (found : Bool) (r : Record) (after : Option (List Record)) (is : Flaw) (f : InputFault)
    → IfSome left (λ rs. GivesFirst rs found r after) → found ≡ true → first r ≡ Some is → IsBadRecord source 1 is f
    → IfSome left (λ rs. TellsRecords source (file_fault first flaw most rs) f)
bad-first source first flaw most None found r after is f h e wrong bad = tt
bad-first source first flaw most (Some rs) found r after is f h e wrong bad =
    let (others, stood, _) = first-found rs found r after h e in
    names-record source 1 is _ f bad (ap (file_fault first flaw most) stood ∙ stops first flaw most r others is wrong)

-- what is told of the records after the first is told of the file
pub bad-rest : (source : Source) (first flaw : Record → Option Flaw) (most : ℕ) (left : Option (List Record)) (found : Bool) (r : Record) (after : Option (List Record)) (f : InputFault)
    → IfSome left (λ rs. GivesFirst rs found r after) → found ≡ true → first r ≡ None
    → IfSome after (λ rs. TellsRecords source (record_fault flaw most 1 rs) f)
    → IfSome left (λ rs. TellsRecords source (file_fault first flaw most rs) f)
bad-rest source first flaw most None found r after f h e good tells = tt
bad-rest source first flaw most (Some rs) found r after f h e good tells =
    let (others, stood, left_are) = first-found rs found r after h e in
    elim (rw left_are at tells) [
      | inl device ↦ inl device
      | inr bad ↦
          let (place, is, named, told) = bad in
          names-record source place is _ f named (ap (file_fault first flaw most) stood ∙ goes-on first flaw most r others good ∙ told)
    ]

-- what follows of a first record and of those after it holds of the file
pub whole-file : (first flaw : Record → Option Flaw) (most : ℕ) (P Q : List Record → Type 0) (left : Option (List Record)) (found : Bool) (r : Record) (after : Option (List Record))
    → IfSome left (λ rs. GivesFirst rs found r after) → found ≡ true → first r ≡ None
    → IfSome after (λ rs. P rs × (record_fault flaw most 1 rs ≡ None))
    → ((rs : List Record) → P rs → file_fault first flaw most (r ∷ rs) ≡ None → Q (r ∷ rs))
    → IfSome left Q
whole-file first flaw most P Q None found r after h e good rest make = tt
whole-file first flaw most P Q (Some rs) found r after h e good rest make =
    let (others, stood, left_are) = first-found rs found r after h e in
    let (says, faultless) = rw left_are at rest in
    let made = make others says (goes-on first flaw most r others good ∙ faultless) in
    rw stood made

-- a header, and another first record
pub is_header_of : (is_header : Record → Bool) (r : Record) → is_header r ≡ true → header_of is_header r ≡ None
is_header_of is_header r e = rw e refl

pub no_header_of : (is_header : Record → Bool) (r : Record) → is_header r ≡ false → header_of is_header r ≡ Some Header
no_header_of is_header r e = rw e refl
