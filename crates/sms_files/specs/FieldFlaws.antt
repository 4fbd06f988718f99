-- What is wrong with a field of a record, and the first flaw of several. Fields count from 1.
use Rattle.std.specs.Prelude.{ℕ, ◌+◌, Bool, true, false, List, Option, None, Some, is_some, if◌then◌else◌, Result, Ok, Err}
use Rattle.sms_files.specs.Fields.{Record, number_at, text_in}
use Rattle.sms_files.specs.declared.flaw.Flaw.{Flaw}
use Rattle.sms_files.specs.declared.flaw.Flaw.TheVariants.{Header, NotText, NotNumber}

-- the first of two flaws
abbrev pub first_flaw : Option Flaw → Option Flaw → Option Flaw
first_flaw None later = later
first_flaw (Some flaw) later = Some flaw

-- the flaw of what couldn't be read
abbrev pub flaw_in : {A : Type 0} → Result A Flaw → Option Flaw
flaw_in (Ok x) = None
flaw_in (Err flaw) = Some flaw

-- a field that isn't UTF-8
abbrev pub text_flaw : Record → ℕ → Option Flaw
text_flaw r place = if is_some (text_in r place) then None else Some (NotText (place + 1))

-- the number in a field; a field that has none, or a greater one
abbrev pub number_or : ℕ → Option ℕ → Result ℕ Flaw
number_or place None = Err (NotNumber (place + 1))
number_or place (Some number) = Ok number

abbrev pub number_read : ℕ → Record → ℕ → Result ℕ Flaw
number_read most r place = number_or place (number_at most r place)

abbrev pub number_flaw : ℕ → Record → ℕ → Option Flaw
number_flaw most r place = flaw_in (number_read most r place)

-- a first record that is another
abbrev pub header_flaw : Bool → Option Flaw
header_flaw good = if good then None else Some Header
