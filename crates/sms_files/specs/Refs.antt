-- A messages file with a fifth column, the sender's own reference of each message; and the messages file that is left without that column.
use Rattle.std.specs.Prelude.{◌≡◌, ℕ, ◌==◌, ◌&&◌, Bool, List, [], ◌∷◌, ◌++◌, length, map, Option, Some, None, if◌then◌else◌, Result, Ok, Err, codes, flat_map, string_bytes}
use Rattle.sms_files.specs.Fields.{Field, Record, records_of}
use Rattle.sms_files.specs.FieldFlaws.{first_flaw, text_flaw}
use Rattle.sms_files.specs.Messages.{messages_fault, most_messages}
use Rattle.sms_files.specs.Records.{Trouble, file_fault}
use Rattle.sms_files.specs.Report.{field_text}
use Rattle.sms_files.specs.Rows.{field_is, header_of}
use Rattle.sms_files.specs.declared.flaw.Flaw.{Flaw}
use Rattle.sms_files.specs.declared.flaw.Flaw.TheVariants.{Fields}
use Rattle.sms_files.specs.declared.refs.RefFields.{RefFields}
use Rattle.sms_files.specs.declared.refs.RefRow.{RefRow}
use Rattle.sms_files.specs.declared.refs.TakenRefs.{TakenRefs}

-- the header of five columns, and nothing else
abbrev pub is_refs_header : Record → Bool
is_refs_header r =
    length r == 5
    && (field_is r 0 (codes "account")
    && (field_is r 1 (codes "source") && (field_is r 2 (codes "destination") && (field_is r 3 (codes "text") && field_is r 4 (codes "ref")))))

-- a first record that isn't it
abbrev pub refs_header_flaw : Record → Option Flaw
refs_header_flaw = header_of is_refs_header

-- a message with its reference has five fields of text
abbrev pub refs_flaw : Record → Option Flaw
refs_flaw r =
    if length r == 5
    then first_flaw (text_flaw r 0) (first_flaw (text_flaw r 1) (first_flaw (text_flaw r 2) (first_flaw (text_flaw r 3) (text_flaw r 4))))
    else Some (Fields (length r))

-- the first record that may not stand where it stands, by its number from 1, and its flaw
abbrev pub refs_fault : List Record → Option Trouble
refs_fault = file_fault refs_header_flaw refs_flaw most_messages

-- the record that has these fields
abbrev pub record_with : RefFields → Record
record_with m = m.account.now ∷ (m.source.now ∷ (m.destination.now ∷ (m.text.now ∷ (m.reference.now ∷ []))))

-- the record is a message's with its reference, and these are its fields; or it has this flaw
abbrev pub AreRefFieldsOf : Record → Result RefFields Flaw → Type 0
AreRefFieldsOf r (Err flaw) = refs_flaw r ≡ Some flaw
AreRefFieldsOf r (Ok m) = (refs_flaw r ≡ None) × (record_with m ≡ r)

-- the record of a row, and the row that has a record's fields
abbrev pub record_of_row : RefRow → Record
record_of_row row =
    string_bytes row.account ∷ (string_bytes row.source ∷ (string_bytes row.destination ∷ (string_bytes row.text ∷ (string_bytes row.reference ∷ []))))

abbrev pub HasRefFields : Record → RefRow → Type 0
HasRefFields r row = record_of_row row ≡ r

-- ---- the messages file without its fifth column

-- the first four fields of a record
abbrev pub front_four : Record → Record
front_four (account ∷ (source ∷ (destination ∷ (text ∷ more)))) = account ∷ (source ∷ (destination ∷ (text ∷ [])))
front_four fields = fields

-- the fifth
abbrev pub ref_of : Record → Field
ref_of (account ∷ (source ∷ (destination ∷ (text ∷ (ref ∷ more))))) = ref
ref_of fields = []

-- the line of four fields
abbrev pub four_text : Field → Field → Field → Field → List ℕ
four_text account source destination text =
    field_text account ++ codes "," ++ field_text source ++ codes "," ++ field_text destination ++ codes "," ++ field_text text ++ codes "\n"

-- the line that is left of a record
abbrev pub plain_line : Record → List ℕ
plain_line (account ∷ (source ∷ (destination ∷ (text ∷ more)))) = four_text account source destination text
plain_line fields = []

-- the header of four columns, and the lines of these records
abbrev pub plain_text : List Record → List ℕ
plain_text rs = codes "account,source,destination,text\n" ++ flat_map plain_line rs

-- the records after the first
abbrev pub behind_first : List Record → List Record
behind_first [] = []
behind_first (header ∷ rs) = rs

-- the octets are a messages file of five columns: without the fifth it is this one, and these are its references
abbrev pub AreTaken : List Record → List ℕ → List (List ℕ) → Type 0
AreTaken rs plain refs = (refs_fault rs ≡ None) × (plain ≡ plain_text (behind_first rs)) × (refs ≡ map ref_of (behind_first rs))

abbrev pub IsTakenFrom : List ℕ → TakenRefs → Type 0
IsTakenFrom octets t = AreTaken (records_of octets) t.plain.items (map string_bytes t.refs.items)

-- ---- laws: what is left is a messages file again

-- the header of four columns
abbrev pub plain_header : Record
plain_header = codes "account" ∷ (codes "source" ∷ (codes "destination" ∷ (codes "text" ∷ [])))

-- its records are the header, and of each message the first four fields as they stood
abbrev pub PlainIsReadAgain : Type 0
PlainIsReadAgain = (rs : List Record) → refs_fault rs ≡ None → records_of (plain_text (behind_first rs)) ≡ plain_header ∷ map front_four (behind_first rs)

-- no record of it is faulty
abbrev pub PlainHasNoFault : Type 0
PlainHasNoFault = (rs : List Record) → refs_fault rs ≡ None → messages_fault (records_of (plain_text (behind_first rs))) ≡ None
