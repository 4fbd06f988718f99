-- A messages file: a header, and a record for each message with its account, source, destination and text.
use Rattle.std.specs.Prelude.{◌≡◌, ℕ, ◌==◌, ◌&&◌, Bool, List, [], ◌∷◌, length, Option, Some, None, if◌then◌else◌, Result, Ok, Err, codes, string_bytes}
use Rattle.sms_files.specs.Fields.{Field, Record}
use Rattle.sms_files.specs.FieldFlaws.{first_flaw, text_flaw}
use Rattle.sms_files.specs.Records.{Trouble, file_fault}
use Rattle.sms_files.specs.Rows.{AreRows, field_is, header_of}
use Rattle.sms_files.specs.declared.flaw.Flaw.{Flaw}
use Rattle.sms_files.specs.declared.flaw.Flaw.TheVariants.{Fields}
use Rattle.sms_files.specs.declared.tables.messages.MessageFields.{MessageFields}
use Rattle.sms_files.specs.declared.tables.messages.MessageText.{MessageText}

-- how many messages a file has at the most
abbrev pub most_messages : ℕ
most_messages = 100_000

-- the header, and nothing else
abbrev pub is_header : Record → Bool
is_header r =
    length r == 4
    && (field_is r 0 (codes "account") && (field_is r 1 (codes "source") && (field_is r 2 (codes "destination") && field_is r 3 (codes "text"))))

-- a first record that isn't it
abbrev pub messages_header_flaw : Record → Option Flaw
messages_header_flaw = header_of is_header

-- a message has four fields of text
abbrev pub message_flaw : Record → Option Flaw
message_flaw r =
    if length r == 4
    then first_flaw (text_flaw r 0) (first_flaw (text_flaw r 1) (first_flaw (text_flaw r 2) (text_flaw r 3)))
    else Some (Fields (length r))

-- the first record that may not stand where it stands, by its number from 1, and its flaw
abbrev pub messages_fault : List Record → Option Trouble
messages_fault = file_fault messages_header_flaw message_flaw most_messages

-- the record that has these fields
abbrev pub record_of : MessageFields → Record
record_of m = m.account.now ∷ (m.source.now ∷ (m.destination.now ∷ (m.text.now ∷ [])))

-- the record is a message's, and these are its fields; or it has this flaw
abbrev pub AreFieldsOf : Record → Result MessageFields Flaw → Type 0
AreFieldsOf r (Err flaw) = message_flaw r ≡ Some flaw
AreFieldsOf r (Ok m) = (message_flaw r ≡ None) × (record_of m ≡ r)

-- the text in a message's record
abbrev pub text_of : Record → Field
text_of (account ∷ (source ∷ (destination ∷ (text ∷ more)))) = text
text_of fields = []

abbrev pub HasText : Record → MessageText → Type 0
HasText r m = string_bytes m.text ≡ text_of r

-- the records are a messages file of these texts
abbrev pub AreTexts : List Record → List MessageText → Type 0
AreTexts = AreRows messages_header_flaw message_flaw HasText most_messages
