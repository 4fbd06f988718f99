-- What the sender prints: a line for each segment, and the statement of the accounts.
use Rattle.std.specs.Prelude.{ℕ, ◌+◌, ◌==◌, ◌&&◌, ◌||◌, nat_le, Bool, true, false, List, [], ◌∷◌, ◌++◌, length, map, Option, Some, None, if◌then◌else◌, codes, decimal, flat_map, string_bytes}
use Rattle.sms_core.specs.declared.row.Row.{Row}
use Rattle.sms_book.specs.declared.opening.Opening.{Opening}
use Rattle.sms_pdu.specs.declared.reply.Reply.{Reply}
use Rattle.sms_message.specs.declared.ends.Attempt.{Attempt}
use Rattle.sms_message.specs.declared.ends.MessageEnd.{MessageEnd}
use Rattle.sms_message.specs.declared.ends.MessageResult.{MessageResult}
use Rattle.sms_message.specs.declared.ends.SegmentEnd.{SegmentEnd}
use Rattle.sms_message.specs.declared.ends.MessageRefusal.{MessageRefusal}
use Rattle.sms_message.specs.Names.{outcome_name, refusal_name}
use Rattle.sms_message.specs.declared.ends.MessageResult.TheVariants as result
use Rattle.sms_message.specs.declared.ends.Outcome.{Outcome}
use Rattle.sms_message.specs.declared.ends.Outcome.TheVariants.{Charged, Refused, Unanswered, Unsent}

-- a field of CSV: in quotes, with each quote twice, where it has a comma, a quote or a line's end (RFC 4180 2)

abbrev pub quoted_octet : ℕ → List ℕ
quoted_octet c = if c == 34 then codes "\"\"" else c ∷ []

abbrev pub quoted : List ℕ → List ℕ
quoted field = flat_map quoted_octet field

abbrev pub needs_quotes : List ℕ → Bool
needs_quotes [] = false
needs_quotes (c ∷ cs) = (c == 44 || (c == 34 || (c == 10 || c == 13))) || needs_quotes cs

abbrev pub field_text : List ℕ → List ℕ
field_text field = if needs_quotes field then codes "\"" ++ quoted field ++ codes "\"" else field

-- the octets of a message_id, `?` for each outside 0x21 to 0x7E
abbrev pub shown_octet : ℕ → ℕ
shown_octet c = if nat_le 0x21 c && nat_le c 0x7E then c else 63

abbrev pub shown_id : List ℕ → List ℕ
shown_id id = map shown_octet id

-- the status and the message_id of a reply, and nothing of none
abbrev pub answer_text : Option Reply → List ℕ
answer_text None = codes ",\n"
answer_text (Some reply) = decimal reply.status ++ codes "," ++ field_text (shown_id reply.id) ++ codes "\n"

-- those of the last attempt
abbrev pub last_text : {S : Type 0} → List (Attempt S) → List ℕ
last_text [] = codes ",\n"
last_text (attempt ∷ []) = answer_text attempt.reply
last_text (attempt ∷ (next ∷ attempts)) = last_text (next ∷ attempts)

-- the line of a segment, before its last reply and with it; parts count from 1
abbrev pub head_text : ℕ → ℕ → ℕ → Outcome → List ℕ
head_text index part tries outcome =
    decimal index ++ codes "," ++ decimal part ++ codes "," ++ decimal tries ++ codes "," ++ outcome_name outcome ++ codes ","

abbrev pub segment_text : {S : Type 0} → ℕ → ℕ → SegmentEnd S → List ℕ
segment_text index part s = head_text index part (length s.attempts) s.outcome ++ last_text s.attempts

-- a line for each segment, counted on from a part
abbrev pub segment_texts : {S : Type 0} → ℕ → ℕ → List (SegmentEnd S) → List ℕ
segment_texts index part [] = []
segment_texts index part (s ∷ ss) = segment_text index part s ++ segment_texts index (part + 1) ss

-- the line of a message that was refused as a whole
abbrev pub refused_text : ℕ → MessageRefusal → List ℕ
refused_text index refusal = decimal index ++ codes ",0,0," ++ refusal_name refusal ++ codes ",,\n"

-- the lines of a message: its segments', or that of its refusal
abbrev pub result_text : {S : Type 0} → ℕ → MessageResult S → List ℕ
result_text index (result.Sent segments) = segment_texts index 1 segments
result_text index (result.Refused refusal) = refused_text index refusal

abbrev pub end_text : {S : Type 0} → MessageEnd S → List ℕ
end_text e = result_text e.index e.result

abbrev pub end_texts : {S : Type 0} → List (MessageEnd S) → List ℕ
end_texts ends = flat_map end_text ends

-- the amounts of a row, a comma before each
abbrev pub amount_text : ℕ → List ℕ
amount_text amount = codes "," ++ decimal amount

abbrev pub amounts_text : Row → List ℕ
amounts_text row =
    amount_text row.topped ++ amount_text row.free ++ amount_text row.reserved ++ amount_text row.charged ++ amount_text row.returned ++ codes "\n"

-- the line of an account
abbrev pub row_text : Opening → Row → List ℕ
row_text o row = field_text (string_bytes o.name) ++ amounts_text row

-- a line for each account and its row
abbrev pub row_texts : List Opening → List Row → List ℕ
row_texts [] rows = []
row_texts (o ∷ os) [] = []
row_texts (o ∷ os) (row ∷ rows) = row_text o row ++ row_texts os rows

-- the report's first line, and the statement's
abbrev pub report_header : List ℕ
report_header = codes "message,part,attempts,outcome,status,id\n"

abbrev pub statement_header : List ℕ
statement_header = codes "account,topped,free,reserved,charged,returned\n"

-- the report and the statement
abbrev pub report_of : {S : Type 0} → List Opening → List (MessageEnd S) → List Row → List ℕ
report_of openings ends rows = report_header ++ end_texts ends ++ statement_header ++ row_texts openings rows

-- a segment of the message is unanswered
abbrev pub is_unanswered : Outcome → Bool
is_unanswered Unanswered = true
is_unanswered _ = false

abbrev pub has_unanswered : {S : Type 0} → List (SegmentEnd S) → Bool
has_unanswered [] = false
has_unanswered (s ∷ ss) = is_unanswered s.outcome || has_unanswered ss

abbrev pub is_open_end : {S : Type 0} → MessageResult S → Bool
is_open_end (result.Sent segments) = has_unanswered segments
is_open_end (result.Refused refusal) = false

abbrev pub some_unanswered : {S : Type 0} → List (MessageEnd S) → Bool
some_unanswered [] = false
some_unanswered (e ∷ es) = is_open_end e.result || some_unanswered es

-- the exit status of the sender: 4 where a segment is unanswered, else 0
abbrev pub ends_status : {S : Type 0} → List (MessageEnd S) → ℕ
ends_status ends = if some_unanswered ends then 4 else 0
