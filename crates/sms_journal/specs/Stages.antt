-- Which records are a report of messages of these plans, sent at most so often, and of accounts with these openings, and the first record that is not.
use Rattle.std.specs.Prelude.{◌≡◌, ◌≢◌, ◌≤◌, ℕ, ◌+◌, ◌-◌, ◌==◌, ◌&&◌, ◌||◌, nat_le, Bool, true, false, List, [], ◌∷◌, length, take, Option, Some, None, option_and_then, slice_get, string_bytes, if◌then◌else◌}
use Rattle.sms_book.specs.declared.opening.Opening.{Opening}
use Rattle.sms_core.specs.declared.row.Row.{Row}
use Rattle.sms_core.specs.declared.request.Phase.{Phase}
use Rattle.sms_core.specs.Rows.{Entry, IsBalanced, row_of, reserved_of, charged_of, returned_of}
use Rattle.sms_message.specs.declared.ends.Outcome.{Outcome}
use Rattle.sms_message.specs.Ends.{phase_of}
use Rattle.sms_files.specs.Fields.{Record}
use Rattle.sms_journal.specs.declared.rest.plan.Plan.{Plan}
use Rattle.sms_journal.specs.declared.rest.report_line.Ending.{Ending}
use Rattle.sms_journal.specs.declared.rest.report_line.Ending.TheVariants.{Part, Message}
use Rattle.sms_journal.specs.declared.rest.report_line.Line.{Line}
use Rattle.sms_journal.specs.declared.rest.stage.Stage.{Stage}
use Rattle.sms_journal.specs.declared.rest.stage.Stage.TheVariants.{Start, Lines, Rows}
use Rattle.sms_journal.specs.Plans.{may_refuse}
use Rattle.sms_journal.specs.RecordLines.{account_in, is_header, is_statement_header, line_in}

-- how far a report is, and what its parts add to accounts, those of the last line first
pub record Progress : Type 0 where
  pub stage : Stage
  pub entries : List Entry

abbrev pub start : Progress
start = record { stage = Start; entries = [] }

-- ---- places of lines

-- in how many parts the message at a place is sent
abbrev pub count_or : Option Plan → ℕ
count_or None = 0
count_or (Some plan) = plan.parts

abbrev pub count_at : List Plan → ℕ → ℕ
count_at plans place = count_or (slice_get plans place)

-- the last message that has lines was refused as a whole, or has a line for each of its parts
abbrev pub is_whole : List Plan → ℕ → ℕ → Bool
is_whole plans begun parts = parts == 0 || parts == count_at plans (begun - 1)

-- after the lines of the first messages, the last of which has lines for some of its parts: the line of the next message's first part or
-- refusal, or of the next part of that last message
abbrev pub begins : List Plan → ℕ → ℕ → Line → Bool
begins plans begun parts line = is_whole plans begun parts && (line.message == begun && (nat_le line.part 1 && nat_le line.part (count_at plans begun)))

abbrev pub goes_on : List Plan → ℕ → ℕ → Line → Bool
goes_on plans begun parts line = (line.message + 1) == begun && (nat_le 1 parts && (line.part == parts + 1 && nat_le line.part (count_at plans line.message)))

-- the line may stand there, with so many attempts
abbrev pub stands : ℕ → List Plan → ℕ → ℕ → Line → Bool
stands most plans begun parts line = (begins plans begun parts line || goes_on plans begun parts line) && nat_le line.attempts most

-- after the lines of all messages: the statement's header
abbrev pub ends_lines : List Plan → ℕ → ℕ → Record → Bool
ends_lines plans begun parts r = begun == length plans && (is_whole plans begun parts && is_statement_header r)

-- ---- credits

-- what a part adds to its account
abbrev pub entry_of : ℕ → ℕ → Outcome → Entry
entry_of account cost outcome = record { account = account; cost = cost; phase = phase_of outcome }

-- no more is reserved and charged than was topped up; what was returned is below 2^64, as each amount
abbrev pub is_covered : Row → Bool
is_covered row = nat_le (row.reserved + row.charged) row.topped && nat_le row.returned 0xFFFF_FFFF_FFFF_FFFF

-- the account has the credits for what these add to it
abbrev pub covers : ℕ → List Entry → Option Opening → Bool
covers account entries None = false
covers account entries (Some o) = is_covered (row_of o.credits account entries)

-- ---- records

-- the line's message, or its part, is the last that has a line
abbrev pub behind : Line → List Entry → Progress
behind line entries = record { stage = Lines (line.message + 1) line.part; entries = entries }

-- the line of a part, by the account that pays it
abbrev pub with_part : List Opening → List Entry → Line → Plan → Outcome → Option ℕ → Option Progress
with_part openings entries line plan outcome None = None
with_part openings entries line plan outcome (Some account) =
    if plan.addresses && covers account (entry_of account plan.cost outcome ∷ entries) (slice_get openings account)
    then Some (behind line (entry_of account plan.cost outcome ∷ entries))
    else None

-- a part is paid; a message is refused for a reason that it gives
abbrev pub with_ending : List Opening → List Entry → Line → Plan → Ending → Option Progress
with_ending openings entries line plan (Part outcome) = with_part openings entries line plan outcome plan.account
with_ending openings entries line plan (Message refusal) = if may_refuse plan refusal then Some (behind line entries) else None

abbrev pub with_plan : List Opening → List Entry → Line → Option Plan → Option Progress
with_plan openings entries line None = None
with_plan openings entries line (Some plan) = with_ending openings entries line plan line.ending

-- with the next line
abbrev pub with_line : ℕ → List Plan → List Opening → ℕ → ℕ → List Entry → Option Line → Option Progress
with_line most plans openings begun parts entries None = None
with_line most plans openings begun parts entries (Some line) =
    if stands most plans begun parts line then with_plan openings entries line (slice_get plans line.message) else None

-- after the rows of the first accounts: that of the next, which is the sum of its parts
abbrev pub with_row : List Entry → ℕ → Option Opening → Record → Option Progress
with_row entries done None r = None
with_row entries done (Some o) r =
    if account_in (string_bytes o.name) (row_of o.credits done entries) r then Some (record { stage = Rows (done + 1); entries = entries }) else None

-- how far a report is with one record more, if that may stand there
abbrev pub step_by : ℕ → List Plan → List Opening → Record → List Entry → Stage → Option Progress
step_by most plans openings r entries Start = if is_header r then Some (record { stage = Lines 0 0; entries = entries }) else None
step_by most plans openings r entries (Lines begun parts) =
    if ends_lines plans begun parts r then Some (record { stage = Rows 0; entries = entries }) else with_line most plans openings begun parts entries (line_in r)
step_by most plans openings r entries (Rows done) = with_row entries done (slice_get openings done) r

abbrev pub step : ℕ → List Plan → List Opening → Record → Progress → Option Progress
step most plans openings r at = step_by most plans openings r at.entries at.stage

-- how far it is after these records, if they may stand there
abbrev pub after : ℕ → List Plan → List Opening → Progress → List Record → Option Progress
after most plans openings at [] = Some at
after most plans openings at (r ∷ rs) = option_and_then (λ next. after most plans openings next rs) (step most plans openings r at)

-- a report has all lines and all rows
pub record IsReport (most : ℕ) (plans : List Plan) (openings : List Opening) (rs : List Record) : Type 0 where
  pub end : Progress
  pub read : after most plans openings start rs ≡ Some end
  pub whole : end.stage ≡ Rows (length openings)

-- where the record is one, it may not stand there; where there is none, the report isn't at its end
abbrev pub Stops : ℕ → List Plan → List Opening → Progress → Option Record → Type 0
Stops most plans openings at (Some r) = step most plans openings r at ≡ None
Stops most plans openings at None = at.stage ≢ Rows (length openings)

-- the first faulty or missing record has this number, from 1
pub record IsFirstFaulty (most : ℕ) (plans : List Plan) (openings : List Opening) (rs : List Record) (k : ℕ) : Type 0 where
  pub before : ℕ
  pub number : k ≡ before + 1
  pub within : before ≤ length rs
  pub at : Progress
  pub front : after most plans openings start (take before rs) ≡ Some at
  pub stops : Stops most plans openings at (slice_get rs before)

-- ---- what a check keeps

-- the rows of all accounts, of these entries
pub record AreRowsOf (openings : List Opening) (entries : List Entry) (rows : List Row) : Type 0 where
  pub each : (i : ℕ) (o : Opening) → slice_get openings i ≡ Some o → slice_get rows i ≡ Some (row_of o.credits i entries)
  pub balanced : (i : ℕ) (o : Opening) → slice_get openings i ≡ Some o → IsBalanced (row_of o.credits i entries)
  pub none : (i : ℕ) → slice_get openings i ≡ None → slice_get rows i ≡ None

-- an account's row of which no part is known
abbrev pub opened : ℕ → Row
opened credits = record { topped = credits; free = credits; reserved = 0; charged = 0; returned = 0 }

-- a row that balances, with one part more, if it is covered
abbrev pub row_with : Phase → ℕ → Row → Row
row_with phase cost row = record {
  topped = row.topped;
  free = row.free - (reserved_of phase cost + charged_of phase cost);
  reserved = row.reserved + reserved_of phase cost;
  charged = row.charged + charged_of phase cost;
  returned = row.returned + returned_of phase cost;
}

abbrev pub grown : Phase → ℕ → Row → Option Row
grown phase cost row = if is_covered (row_with phase cost row) then Some (row_with phase cost row) else None

-- the rows have one entry more, or its account doesn't cover it
abbrev pub IsAdded : List Opening → List Entry → Entry → Bool → List Row → Type 0
IsAdded openings entries e true rows = (covers e.account (e ∷ entries) (slice_get openings e.account) ≡ true) × AreRowsOf openings (e ∷ entries) rows
IsAdded openings entries e false rows = covers e.account (e ∷ entries) (slice_get openings e.account) ≡ false

-- it is as far as this, with the rows for it
abbrev pub IsAt : List Opening → Option Progress → Option Stage → List Row → Type 0
IsAt openings None stage rows = stage ≡ None
IsAt openings (Some at) stage rows = (stage ≡ Some at.stage) × AreRowsOf openings at.entries rows
