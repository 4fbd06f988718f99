-- The fields of a file's records, as csv gives them, and the numbers and the text in them.
use Rattle.std.specs.Prelude.{ℕ, List, Option, Some, None, option_and_then, if◌then◌else◌}
use Rattle.std.specs.Str.{is_utf8}
use Rattle.csv.specs.Reading.{default_config, records, strip_bom}
use Rattle.csv.specs.Records.{field_at}
use Rattle.sms_core.specs.Decimal.{decimal_in}

abbrev pub Field : Type 0
Field = List ℕ

abbrev pub Record : Type 0
Record = List Field

-- the records of a file: a byte order mark at its head is passed over, and empty lines are no records
abbrev pub records_of : List ℕ → List Record
records_of bytes = records default_config (strip_bom bytes)

-- the number in the field at a place
abbrev pub number_at : ℕ → Record → ℕ → Option ℕ
number_at most r place = option_and_then (decimal_in most) (field_at r place)

-- the field at a place, where it is text
abbrev pub as_text : Field → Option Field
as_text field = if is_utf8 field then Some field else None

abbrev pub text_in : Record → ℕ → Option Field
text_in r place = option_and_then as_text (field_at r place)
