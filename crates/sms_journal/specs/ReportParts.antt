-- The parts of a report, as the model has them.
use Rattle.std.specs.Prelude.{◌≡◌, ℕ, zero, suc, ◌+◌, ◌<◌, ◌==◌, nat_le, Bool, true, false, List, [], ◌∷◌, ◌++◌, drop, replicate, Option, Some, None, if◌then◌else◌, slice_get, slice_index_or}
use Rattle.std.specs.List.{list_all}
use Rattle.sms_core.specs.Replies.{Reply}
use Rattle.sms_core.specs.Statuses.{no_error, throttled}
use Rattle.sms_message.specs.declared.ends.Outcome.{Outcome}
use Rattle.sms_message.specs.declared.ends.Outcome.TheVariants.{Charged, Refused, Unanswered, Unsent}
use Rattle.sms_files.specs.Fields.{Record}
use Rattle.sms_journal.specs.declared.rest.plan.Plan.{Plan}
use Rattle.sms_journal.specs.declared.rest.report_line.Ending.{Ending}
use Rattle.sms_journal.specs.declared.rest.report_line.Ending.TheVariants.{Part, Message}
use Rattle.sms_journal.specs.declared.rest.report_line.Line.{Line}
use Rattle.sms_journal.specs.RecordLines.{is_statement_header, line_in}
use Rattle.sms_journal.specs.declared.audit.part.SentPart.{SentPart}

-- ---- attempts

-- a report doesn't say how the attempts before the last were answered, but that the part was sent again: as throttled here
abbrev pub again : Option Reply
again = Some (record { status = throttled; nack = false })

-- only a generic_nack refuses a part with ESME_ROK
abbrev pub nacks : Outcome → ℕ → Bool
nacks Charged status = false
nacks Refused status = status == no_error
nacks Unanswered status = false
nacks Unsent status = false

abbrev pub last_answer : Outcome → Option ℕ → Option Reply
last_answer outcome None = None
last_answer outcome (Some status) = Some (record { status = status; nack = nacks outcome status })

abbrev pub attempts_told : ℕ → Option Reply → List (Option Reply)
attempts_told zero last = []
attempts_told (suc before) last = replicate before again ++ last ∷ []

-- ---- parts

-- the part of a line, by its account and its cost
abbrev pub part_told : ℕ → ℕ → Line → Outcome → SentPart
part_told account cost line outcome = record { account = account; cost = cost; attempts = attempts_told line.attempts (last_answer outcome line.status) }

abbrev pub part_paid : ℕ → Line → Outcome → Option ℕ → List SentPart
part_paid cost line outcome None = []
part_paid cost line outcome (Some account) = part_told account cost line outcome ∷ []

-- a message that was refused as a whole has none
abbrev pub part_ended : Plan → Line → Ending → List SentPart
part_ended plan line (Part outcome) = part_paid plan.cost line outcome plan.account
part_ended plan line (Message refusal) = []

abbrev pub part_planned : Line → Option Plan → List SentPart
part_planned line None = []
part_planned line (Some plan) = part_ended plan line line.ending

abbrev pub part_lined : List Plan → Option Line → List SentPart
part_lined plans None = []
part_lined plans (Some line) = part_planned line (slice_get plans line.message)

-- those of the lines before the statement
abbrev pub parts_in : List Plan → List Record → List SentPart
parts_in plans [] = []
parts_in plans (r ∷ rs) = if is_statement_header r then [] else part_lined plans (line_in r) ++ parts_in plans rs

-- those of a report, whose first record is its header
abbrev pub report_parts : List Plan → List Record → List SentPart
report_parts plans report = parts_in plans (drop 1 report)

-- ---- the statement

-- the records behind its header
abbrev pub rows_behind : List Record → List Record
rows_behind [] = []
rows_behind (r ∷ rs) = if is_statement_header r then rs else rows_behind rs

abbrev pub statement_in : List Record → List Record
statement_in report = rows_behind (drop 1 report)

-- ---- credits

-- the account was opened with credits for the part
abbrev pub is_covered : List ℕ → SentPart → Bool
is_covered opened p = nat_le p.cost (slice_index_or opened p.account 0)

-- it was for each part of the line
abbrev pub are_covered : List ℕ → List Plan → Record → Bool
are_covered opened plans r = list_all (is_covered opened) (part_lined plans (line_in r))

-- of these lines, which stand behind a report's header, the first of a part for which its account was never opened with the credits is the record with this
-- number, from 1
pub record IsFirstUncovered (opened : List ℕ) (plans : List Plan) (lines : List Record) (k : ℕ) : Type 0 where
  pub place : ℕ
  pub number : k ≡ place + 2
  pub line : Record
  pub there : slice_get lines place ≡ Some line
  pub uncovered : are_covered opened plans line ≡ false
  pub within : is_statement_header line ≡ false
  pub before : (j : ℕ) (r : Record) → j < place → slice_get lines j ≡ Some r → (are_covered opened plans r ≡ true) × (is_statement_header r ≡ false)
