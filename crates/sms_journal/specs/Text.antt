-- The text of a journal: a header, and a line for each note. Lines are records of CSV, of which no field wants quotes.
use Rattle.std.specs.Prelude.{ℕ, ◌+◌, ◌/◌, ◌%◌, ◌==◌, ◌&&◌, not, nat_le, nat_lt, Bool, List, [], ◌∷◌, ◌++◌, Option, Some, None, if◌then◌else◌, codes, decimal, flat_map}
use Rattle.sms_message.specs.Names.{refusal_name}
use Rattle.sms_journal.specs.declared.text.header.ConfigTie.{ConfigTie}
use Rattle.sms_journal.specs.declared.text.header.ConfigTie.TheVariants.{Keys, Octets}
use Rattle.sms_journal.specs.declared.text.header.Digests.{Digests}
use Rattle.sms_journal.specs.declared.text.header.JournalKind.{JournalKind}
use Rattle.sms_journal.specs.declared.text.header.JournalKind.TheVariants.{Run, Trial}
use Rattle.sms_journal.specs.declared.notes.note.Note.{Note}
use Rattle.sms_journal.specs.declared.notes.note.Note.TheVariants.{Begun, Sent, Unsent, Heard, Refused, End, Round}

-- ---- hexadecimal digits, the greater half first

abbrev pub hex_digit : ℕ → ℕ
hex_digit n = if nat_lt n 10 then 48 + n else 87 + n

abbrev pub hex_octet : ℕ → List ℕ
hex_octet c = hex_digit (c / 16) ∷ hex_digit (c % 16) ∷ []

abbrev pub hex_text : List ℕ → List ℕ
hex_text octets = flat_map hex_octet octets

-- ---- fields

abbrev pub number_field : ℕ → List ℕ
number_field n = codes "," ++ decimal n

abbrev pub flag : Bool → ℕ
flag b = if b then 1 else 0

-- a message_id: visible ASCII characters but comma, quote and percent stand for themselves, and a percent with two digits for any other octet
abbrev pub is_plain : ℕ → Bool
is_plain c = (nat_le 0x21 c && nat_le c 0x7E) && (not (c == 0x22) && (not (c == 0x25) && not (c == 0x2C)))

abbrev pub id_octet : ℕ → List ℕ
id_octet c = if is_plain c then c ∷ [] else 0x25 ∷ hex_octet c

abbrev pub id_text : List ℕ → List ℕ
id_text id = flat_map id_octet id

-- ---- lines

-- the line of a note that was made at this time, in milliseconds since 1970 UTC
abbrev pub note_text : ℕ → Note → List ℕ
note_text time (Begun m) = codes "begun" ++ number_field time ++ number_field m ++ codes "\n"
note_text time (Sent request m p) = codes "sent" ++ number_field time ++ number_field request.worker ++ number_field request.number ++ number_field m ++ number_field p ++ codes "\n"
note_text time (Unsent request) = codes "unsent" ++ number_field time ++ number_field request.worker ++ number_field request.number ++ codes "\n"
note_text time (Heard by reply) =
    codes "heard" ++ number_field time ++ number_field by ++ number_field reply.number ++ number_field reply.status ++ number_field (flag reply.nack) ++ codes "," ++ id_text reply.id ++ codes "\n"
note_text time (Refused m refusal) = codes "refused" ++ number_field time ++ number_field m ++ codes "," ++ refusal_name refusal ++ codes "\n"
note_text time (End status) = codes "end" ++ number_field time ++ number_field status ++ codes "\n"
note_text time (Round number binds workers) = codes "round" ++ number_field time ++ number_field number ++ number_field binds ++ number_field workers ++ codes "\n"

-- a digest; nothing stands for that of a file that there isn't
abbrev pub digest_field : List ℕ → List ℕ
digest_field digest = codes "," ++ hex_text digest

abbrev pub tariff_field : Option (List ℕ) → List ℕ
tariff_field None = codes ","
tariff_field (Some digest) = digest_field digest

abbrev pub kind_word : JournalKind → List ℕ
kind_word Run = codes "journal"
kind_word Trial = codes "trial"

-- what a journal is tied to of its run's config: all its octets (version 1), or what a report is computed by (version 2)
abbrev pub tie_text : ConfigTie → List ℕ
tie_text (Octets digest) = codes ",1" ++ digest_field digest
tie_text (Keys keys) = codes ",2" ++ number_field keys.attempts ++ number_field (flag keys.long_reference) ++ number_field keys.binds ++ number_field keys.workers

-- the first line: of what the journal is, and of which files
abbrev pub header_text : JournalKind → Digests → List ℕ
header_text kind d = kind_word kind ++ tie_text d.config ++ digest_field d.accounts ++ digest_field d.messages ++ tariff_field d.tariff ++ codes "\n"
