-- The records of a report: its two headers, the lines of messages, and those of accounts.
use Rattle.std.specs.Prelude.{ℕ, ◌==◌, ◌&&◌, nat_le, Bool, true, false, [], ◌∷◌, length, Option, Some, None, option_and_then, option_map, if◌then◌else◌, codes}
use Rattle.csv.specs.Records.{field_at}
use Rattle.sms_core.specs.Decimal.{decimal_in}
use Rattle.sms_core.specs.Statuses.{no_error}
use Rattle.sms_core.specs.declared.row.Row.{Row}
use Rattle.sms_pdu.specs.MessageId.{longest_id}
use Rattle.sms_message.specs.declared.ends.MessageRefusal.TheVariants.{NoAccount, NoCredit, TooLong, BadAddress, BindClosed, OutOfMemory}
use Rattle.sms_message.specs.declared.ends.Outcome.{Outcome}
use Rattle.sms_message.specs.declared.ends.Outcome.TheVariants.{Charged, Refused, Unanswered, Unsent}
use Rattle.sms_message.specs.Names.{outcome_named, refusal_named}
use Rattle.sms_files.specs.Fields.{Field, Record, number_at}
use Rattle.sms_files.specs.Rows.{field_is}
use Rattle.sms_journal.specs.declared.rest.report_line.Ending.{Ending}
use Rattle.sms_journal.specs.declared.rest.report_line.Ending.TheVariants.{Part, Message}
use Rattle.sms_journal.specs.declared.rest.report_line.Line.{Line}

-- ---- fields

-- a number of a line is below 2^32, an amount below 2^64
abbrev pub number_in : Record → ℕ → Option ℕ
number_in r place = number_at 0xFFFF_FFFF r place

abbrev pub amount_in : Record → ℕ → Option ℕ
amount_in r place = number_at 0xFFFF_FFFF_FFFF_FFFF r place

-- ---- words

-- a part's outcome, and else why its message was refused
abbrev pub part_or : Option Outcome → Field → Option Ending
part_or (Some outcome) word = Some (Part outcome)
part_or None word = option_map (λ refusal. Message refusal) (refusal_named word)

abbrev pub ending_in : Field → Option Ending
ending_in word = part_or (outcome_named word) word

-- ---- lines

-- the command_status of the last attempt's answer, and nothing where it has none
abbrev pub status_of : Option Field → Option (Option ℕ)
status_of None = None
status_of (Some []) = Some None
status_of (Some (c ∷ cs)) = option_map (λ status. Some status) (decimal_in 0xFFFF_FFFF (c ∷ cs))

abbrev pub status_in : Record → Option (Option ℕ)
status_in r = status_of (field_at r 4)

-- the message_id of that answer: visible octets (SMPP 3.4 5.2.23), and none where there is no answer
abbrev pub is_visible : ℕ → Bool
is_visible c = nat_le 0x21 c && nat_le c 0x7E

abbrev pub are_visible : Field → Bool
are_visible [] = true
are_visible (c ∷ cs) = is_visible c && are_visible cs

abbrev pub is_id : Option ℕ → Option Field → Bool
is_id status None = false
is_id None (Some id) = length id == 0
is_id (Some status) (Some id) = nat_le (length id) longest_id && are_visible id

-- a part that was sent so often, the last time with this answer, came to this: without an attempt it is unsent, without an answer unanswered;
-- ESME_ROK charges it or, as a generic_nack, refuses it, and any other status refuses it
abbrev pub has_ended : ℕ → Option ℕ → Outcome → Bool
has_ended attempts None Charged = false
has_ended attempts (Some status) Charged = nat_le 1 attempts && status == no_error
has_ended attempts None Refused = false
has_ended attempts (Some status) Refused = nat_le 1 attempts
has_ended attempts None Unanswered = nat_le 1 attempts
has_ended attempts (Some status) Unanswered = false
has_ended attempts None Unsent = attempts == 0
has_ended attempts (Some status) Unsent = false

-- parts count from 1, and a message that was refused as a whole has no part, no attempt and no answer
abbrev pub fits : ℕ → ℕ → Option ℕ → Ending → Bool
fits part attempts status (Part outcome) = nat_le 1 part && has_ended attempts status outcome
fits part attempts None (Message refusal) = part == 0 && attempts == 0
fits part attempts (Some status) (Message refusal) = false

abbrev pub line_of : ℕ → ℕ → ℕ → Option ℕ → Ending → Option Line
line_of message part attempts status ending =
    if fits part attempts status ending then Some (record { message = message; part = part; attempts = attempts; status = status; ending = ending }) else None

-- what the record says behind its last answer
abbrev pub line_with : Record → Option ℕ → Option Line
line_with r status =
    if is_id status (field_at r 5)
    then option_and_then (λ message. option_and_then (λ part. option_and_then (λ attempts. option_and_then (line_of message part attempts status) (option_and_then ending_in (field_at r 3))) (number_in r 2)) (number_in r 1)) (number_in r 0)
    else None

-- what the record says, where it is a line
abbrev pub line_in : Record → Option Line
line_in r = if length r == 6 then option_and_then (line_with r) (status_in r) else None

-- its message, or its part, did not go out
abbrev pub goes_again : ℕ → Ending → Bool
goes_again attempts (Part Charged) = false
goes_again attempts (Part Refused) = false
goes_again attempts (Part Unanswered) = false
goes_again attempts (Part Unsent) = attempts == 0
goes_again attempts (Message NoAccount) = false
goes_again attempts (Message NoCredit) = true
goes_again attempts (Message TooLong) = false
goes_again attempts (Message BadAddress) = false
goes_again attempts (Message BindClosed) = true
goes_again attempts (Message OutOfMemory) = true

abbrev pub is_left : Line → Bool
is_left line = goes_again line.attempts line.ending

-- ---- the other records

abbrev pub is_header : Record → Bool
is_header r =
    length r == 6
    && (field_is r 0 (codes "message") && (field_is r 1 (codes "part") && (field_is r 2 (codes "attempts") && (field_is r 3 (codes "outcome") && (field_is r 4 (codes "status") && field_is r 5 (codes "id"))))))

abbrev pub is_statement_header : Record → Bool
is_statement_header r =
    length r == 6
    && (field_is r 0 (codes "account") && (field_is r 1 (codes "topped") && (field_is r 2 (codes "free") && (field_is r 3 (codes "reserved") && (field_is r 4 (codes "charged") && field_is r 5 (codes "returned"))))))

-- an amount that is there
abbrev pub is_amount : Option ℕ → ℕ → Bool
is_amount None credits = false
is_amount (Some amount) credits = amount == credits

-- the row of an account: its name, and these credits
abbrev pub account_in : Field → Row → Record → Bool
account_in name row r =
    length r == 6
    && (field_is r 0 name && (is_amount (amount_in r 1) row.topped && (is_amount (amount_in r 2) row.free && (is_amount (amount_in r 3) row.reserved && (is_amount (amount_in r 4) row.charged && is_amount (amount_in r 5) row.returned)))))
