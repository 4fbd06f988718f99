-- A file whose first record is a header, and what its other records say.
use Rattle.std.specs.Prelude.{◌≡◌, ℕ, ◌==◌, ◌&&◌, Bool, false, List, [], ◌∷◌, length, Option, Some, None}
use Rattle.std.specs.List.{AllZip}
use Rattle.std.specs.Str.{bytes_eq}
use Rattle.csv.specs.Records.{field_at}
use Rattle.sms_files.specs.FieldFlaws.{header_flaw}
use Rattle.sms_files.specs.Fields.{Field, Record}
use Rattle.sms_files.specs.Records.{file_fault}
use Rattle.sms_files.specs.declared.flaw.Flaw.{Flaw}

-- no record is faulty, and those after the first say these things
abbrev pub AreRows : {T : Type 0} → (Record → Option Flaw) → (Record → Option Flaw) → (Record → T → Type 0) → ℕ → List Record → List T → Type 0
AreRows first flaw Says most [] xs = ⊥
AreRows first flaw Says most (r ∷ rs) xs = (file_fault first flaw most (r ∷ rs) ≡ None) × AllZip Says rs xs

-- the field at a place is this one
abbrev pub is_some_field : Option Field → Field → Bool
is_some_field None name = false
is_some_field (Some field) name = bytes_eq field name

abbrev pub field_is : Record → ℕ → Field → Bool
field_is r place name = is_some_field (field_at r place) name

-- the record has just these two fields
abbrev pub is_pair : List ℕ → List ℕ → Record → Bool
is_pair first second r = length r == 2 && (field_is r 0 first && field_is r 1 second)

-- the flaw of a first record that is to be a header
abbrev pub header_of : (Record → Bool) → Record → Option Flaw
header_of is_header r = header_flaw (is_header r)
