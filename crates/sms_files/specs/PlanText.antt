-- What plan prints: how the text of each message is coded and cut.
use Rattle.std.specs.Prelude.{Bool, true, false, ℕ, ◌+◌, nat_le, List, [], ◌∷◌, ◌++◌, length, map, if◌then◌else◌, codes, decimal, flat_map, string_bytes}
use Rattle.std.specs.Str.{chars}
use Rattle.sms_alphabet.specs.declared.coded.Coded.{Coded}
use Rattle.sms_alphabet.specs.declared.coded.Coding.{Coding}
use Rattle.sms_alphabet.specs.declared.coded.Coding.TheVariants.{Gsm, Ucs2}
use Rattle.sms_alphabet.specs.Spelling.{chosen}
use Rattle.sms_segment.specs.declared.part.Part.{Part}
use Rattle.sms_segment.specs.declared.place.Reference.{Reference}
use Rattle.sms_segment.specs.declared.place.Reference.TheVariants.{Short, Long}
use Rattle.sms_segment.specs.Message.{parts_of}
use Rattle.sms_files.specs.Fields.{Record}
use Rattle.sms_files.specs.Messages.{text_of}
use Rattle.sms_files.specs.declared.tables.messages.MessageText.{MessageText}

-- the most parts that a header can count
abbrev pub most_parts : ℕ
most_parts = 255

abbrev pub coding_name : Coding → List ℕ
coding_name Gsm = codes "gsm"
coding_name Ucs2 = codes "ucs2"

-- how many units each part has, a space before each
abbrev pub size_texts : List Part → List ℕ
size_texts parts = flat_map (λ (part : Part). codes " " ++ decimal (length part.units)) parts

-- how many units each part has, joined by single spaces
abbrev pub sizes_text : List Part → List ℕ
sizes_text [] = []
sizes_text (part ∷ parts) = decimal (length part.units) ++ size_texts parts

-- the number of parts, and their sizes
abbrev pub counted_text : List Part → List ℕ
counted_text parts = decimal (length parts) ++ codes "," ++ sizes_text parts

-- the same, where there are no more parts than a header can count
abbrev pub parts_text : List Part → List ℕ
parts_text parts = if nat_le (length parts) most_parts then counted_text parts else codes "0,too-long"

-- what becomes of a coded text; the sizes are alike for every reference of one kind
abbrev pub cutting_text : Reference → Coded → List ℕ
cutting_text reference coded = parts_text (parts_of coded reference)

-- a reference of 16 bits or of 8
abbrev pub kind_of : Bool → Reference
kind_of true = Long 0
kind_of false = Short 0

-- the line of the message at a place, counted from 0
abbrev pub coded_line : Reference → ℕ → Coded → List ℕ
coded_line reference index coded =
    decimal index ++ codes "," ++ coding_name coded.coding ++ codes "," ++ decimal (length coded.units) ++ codes "," ++ cutting_text reference coded ++ codes "\n"

-- the line of a text, by its coding
unfoldable pub text_line : Reference → ℕ → List ℕ → List ℕ
text_line reference index text = coded_line reference index (chosen (chars text))

-- a line for each text, counted on from a place
abbrev pub text_lines : Reference → ℕ → List (List ℕ) → List ℕ
text_lines reference index [] = []
text_lines reference index (text ∷ texts) = text_line reference index text ++ text_lines reference (index + 1) texts

abbrev pub plan_text : Reference → List (List ℕ) → List ℕ
plan_text reference texts = codes "message,coding,units,parts,sizes\n" ++ text_lines reference 0 texts

-- the same of messages
abbrev pub message_lines : Reference → ℕ → List MessageText → List ℕ
message_lines reference index [] = []
message_lines reference index (m ∷ ms) = text_line reference index (string_bytes m.text) ++ message_lines reference (index + 1) ms

abbrev pub message_plan : Reference → List MessageText → List ℕ
message_plan reference ms = codes "message,coding,units,parts,sizes\n" ++ message_lines reference 0 ms

-- what plan prints of a file's records, of which the first is the header
abbrev pub plan_of : Reference → List Record → List ℕ
plan_of reference [] = []
plan_of reference (header ∷ rs) = plan_text reference (map text_of rs)
