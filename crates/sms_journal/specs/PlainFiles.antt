-- A file as it is read where messages have references: a messages file of five columns without the fifth, and each other file as it stands.
-- A record that has no reference is left with a number of fields that no message has, so that it is faulty in its place.
use Rattle.std.specs.Prelude.{◌≡◌, ℕ, zero, suc, ◌+◌, ◌-◌, ◌==◌, ◌&&◌, not, nat_le, Bool, true, false, List, [], ◌∷◌, ◌++◌, length, Some, None, is_some, if◌then◌else◌, codes, IsTrue, ◌↔◌}
use Rattle.sms_files.specs.Fields.{Record, records_of, text_in}
use Rattle.sms_files.specs.Messages.{is_header}
use Rattle.sms_files.specs.Quoting.{EndsQuoted}
use Rattle.sms_files.specs.Refs.{is_refs_header, plain_header}
use Rattle.sms_files.specs.Report.{field_text}
use Rattle.sms_journal.specs.declared.plain.Heading.{Heading}
use Rattle.sms_journal.specs.declared.plain.Heading.TheVariants.{Other, Plain, WithRefs}
use Rattle.sms_journal.specs.Rest.{field_or, next_text}

-- ---- a record

-- its fifth field is a reference: it is the last one, and a text, and its quote ends
abbrev pub has_ref : Bool → Record → Bool
has_ref quoted r = (length r == 5 && is_some (text_in r 4)) && not quoted

-- how many fields are left of it: those of a message, or more or less than these
abbrev pub width_of : Bool → Record → ℕ
width_of quoted r = if has_ref quoted r then 4 else (if nat_le (length r) 4 then 3 else length r)

-- so many fields from a place on, and their text, each behind a comma
abbrev pub row_from : Record → ℕ → ℕ → Record
row_from r place zero = []
row_from r place (suc more) = field_or r place ∷ row_from r (place + 1) more

abbrev pub nexts_from : Record → ℕ → ℕ → List ℕ
nexts_from r place zero = []
nexts_from r place (suc more) = next_text r place ++ nexts_from r (place + 1) more

-- its first fields as a line
abbrev pub plain_row : Bool → Record → Record
plain_row quoted r = row_from r 0 (width_of quoted r)

abbrev pub line_with : ℕ → Record → List ℕ
line_with width r = field_text (field_or r 0) ++ nexts_from r 1 (width - 1) ++ codes "\n"

-- ---- a file

abbrev pub is_last : List Record → Bool
is_last [] = true
is_last (r ∷ rs) = false

-- of the records behind the header; the quote of the last may be left open
abbrev pub plain_rows : Bool → List Record → List Record
plain_rows quoted [] = []
plain_rows quoted (r ∷ rs) = plain_row (quoted && is_last rs) r ∷ plain_rows quoted rs

abbrev pub plain_lines : Bool → List Record → List ℕ
plain_lines quoted [] = []
plain_lines quoted (r ∷ rs) = line_with (width_of (quoted && is_last rs) r) r ++ plain_lines quoted rs

-- what its first record is
abbrev pub heading_by : (refs plain : Bool) → Heading
heading_by true plain = WithRefs
heading_by false true = Plain
heading_by false false = Other

abbrev pub heading_of : List Record → Heading
heading_of [] = Other
heading_of (header ∷ rs) = heading_by (is_refs_header header) (is_header header)

-- the records behind it
abbrev pub rows_behind : List Record → List Record
rows_behind [] = []
rows_behind (header ∷ rs) = rs

-- the octets are left of these, whose first record is such: a messages file of four columns is none with references, so it is left with a header that no messages file has
abbrev pub IsPlainBy : Heading → List ℕ → List ℕ → Type 0
IsPlainBy Other octets plain = plain ≡ octets
IsPlainBy Plain octets plain = plain ≡ codes "account,source,destination,text,ref\n"
IsPlainBy WithRefs octets plain =
    (quoted : Bool) × (IsTrue quoted ↔ EndsQuoted octets) × (plain ≡ codes "account,source,destination,text\n" ++ plain_lines quoted (rows_behind (records_of octets)))

abbrev pub IsPlainOf : List ℕ → List ℕ → Type 0
IsPlainOf octets plain = IsPlainBy (heading_of (records_of octets)) octets plain
