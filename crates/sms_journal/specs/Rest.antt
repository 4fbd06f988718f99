-- What is left of a sending by its report: the messages that did not go out, and the credits that are free for them.
use Rattle.std.specs.Prelude.{String, ℕ, ◌+◌, ◌-◌, ◌==◌, ◌&&◌, ◌||◌, not, Bool, true, List, [], ◌∷◌, ◌++◌, length, drop, Option, Some, None, if◌then◌else◌, codes, decimal, string_bytes}
use Rattle.std.specs.declared.alloc.Global.{Global}
use Rattle.csv.specs.Records.{field_at}
use Rattle.sms_book.specs.declared.opening.Opening.{Opening}
use Rattle.sms_files.specs.Fields.{Field, Record}
use Rattle.sms_files.specs.Report.{field_text}
use Rattle.sms_journal.specs.Bill.{ref_end}
use Rattle.sms_journal.specs.declared.rest.report_line.Line.{Line}
use Rattle.sms_journal.specs.RecordLines.{amount_in, is_left, line_in}

-- ---- messages

-- the line is of another message, or of what did not go out
abbrev pub stays_by : ℕ → Option Line → Bool
stays_by i None = true
stays_by i (Some line) = not (line.message == i) || is_left line

abbrev pub stays : ℕ → Record → Bool
stays i r = stays_by i (line_in r)

-- by no line of the report did the message with this index go out
abbrev pub is_unsent : ℕ → List Record → Bool
is_unsent i [] = true
is_unsent i (r ∷ rs) = stays i r && is_unsent i rs

-- a field of a messages file's record, which has four
abbrev pub or_empty : Option Field → Field
or_empty None = []
or_empty (Some field) = field

abbrev pub field_or : Record → ℕ → Field
field_or r place = or_empty (field_at r place)

-- the record as a line again
abbrev pub next_text : Record → ℕ → List ℕ
next_text r place = codes "," ++ field_text (field_or r place)

-- its end, with the sender's reference of a message before it, where messages have references
abbrev pub line_end : Option (List (String Global)) → ℕ → List ℕ
line_end None i = codes "\n"
line_end (Some refs) i = ref_end refs i

abbrev pub record_text : Option (List (String Global)) → ℕ → Record → List ℕ
record_text refs i r = field_text (field_or r 0) ++ next_text r 1 ++ next_text r 2 ++ next_text r 3 ++ line_end refs i

-- the records, counted on from an index, whose messages are left
abbrev pub left_text : Option (List (String Global)) → ℕ → Bool → Record → List ℕ
left_text refs i left r = if left then record_text refs i r else []

abbrev pub left_texts : Option (List (String Global)) → List Record → ℕ → List Record → List ℕ
left_texts refs report i [] = []
left_texts refs report i (r ∷ rs) = left_text refs i (is_unsent i report) r ++ left_texts refs report (i + 1) rs

abbrev pub rest_header : Option (List (String Global)) → List ℕ
rest_header None = codes "account,source,destination,text\n"
rest_header (Some refs) = codes "account,source,destination,text,ref\n"

-- the messages file of what did not go out, by a report of the messages in these records, of which the first is the header
abbrev pub rest_of : Option (List (String Global)) → List Record → List Record → List ℕ
rest_of refs report messages = rest_header refs ++ left_texts refs report 0 (drop 1 messages)

-- ---- accounts

-- the free credits of an account's row
abbrev pub credits_text : Option ℕ → List ℕ
credits_text None = []
credits_text (Some credits) = decimal credits

abbrev pub account_text : Opening → Record → List ℕ
account_text o r = field_text (string_bytes o.name) ++ codes "," ++ credits_text (amount_in r 2) ++ codes "\n"

abbrev pub account_texts : List Opening → List Record → List ℕ
account_texts [] rs = []
account_texts (o ∷ os) [] = []
account_texts (o ∷ os) (r ∷ rs) = account_text o r ++ account_texts os rs

-- the last records of a report are the accounts' rows
abbrev pub rows_in : ℕ → List Record → List Record
rows_in accounts report = drop (length report - accounts) report

-- the accounts file that goes with it
abbrev pub rest_accounts_of : List Opening → List Record → List ℕ
rest_accounts_of openings report = codes "account,credits\n" ++ account_texts openings (rows_in (length openings) report)
