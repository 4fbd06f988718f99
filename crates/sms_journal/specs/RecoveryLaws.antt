-- Laws of recovery: what is recovered of a run's ends is printed as the run prints them.
use Rattle.std.specs.Prelude.{◌≡◌, ◌+◌, ◌≤◌, ℕ, List, Some, map, slice_get}
use Rattle.std.specs.List.{AllZip}
use Rattle.sms_core.specs.declared.row.Row.{Row}
use Rattle.sms_book.specs.declared.opening.Opening.{Opening}
use Rattle.sms_message.specs.declared.message.Message.{Message}
use Rattle.sms_message.specs.declared.rules.Rules.{Rules}
use Rattle.sms_journal.specs.declared.notes.note.Note.{Note}
use Rattle.sms_journal.specs.declared.notes.run_size.RunSize.{RunSize}
use Rattle.sms_message.specs.declared.ends.MessageEnd.{MessageEnd}
use Rattle.sms_journal.specs.Rounds.{IsRunEnd}
use Rattle.sms_journal.specs.Sums.{end_without_evidence}
use Rattle.sms_files.specs.Report.{ends_status, report_of}
use Rattle.sms_journal.specs.Recovering.{AreRecoveredRows, IsRecovered}

-- the report is the sender's, octet for octet
abbrev pub ReportsAgree : Type 0
ReportsAgree = (os : List Opening) (ends : List (MessageEnd (List ℕ))) (rows : List Row) → report_of os (map end_without_evidence ends) rows ≡ report_of os ends rows

-- and so is the exit status
abbrev pub StatusesAgree : Type 0
StatusesAgree = (ends : List (MessageEnd (List ℕ))) → ends_status (map end_without_evidence ends) ≡ ends_status ends

-- where notes give the ends and the rows of a run, the report that is recovered from them is the run's
abbrev pub RunsAreRecovered : Type 0
RunsAreRecovered =
    (rules : Rules) (size : RunSize) (os : List Opening) (ms : List Message) (notes : List Note) (found : List (MessageEnd (Unit {0}))) (rows : List Row) (ends : List (MessageEnd (List ℕ))) (statement : List Row)
    → IsRecovered rules size os ms notes found rows → AllZip (IsRunEnd rules notes) ms (map end_without_evidence ends) → AreRecoveredRows os ms (map end_without_evidence ends) statement
    → report_of os found rows ≡ report_of os ends statement

-- in each row of what is recovered no more is reserved and charged than the account opened with
abbrev pub NoAccountIsOverdrawn : Type 0
NoAccountIsOverdrawn =
    (rules : Rules) (size : RunSize) (os : List Opening) (ms : List Message) (notes : List Note) (found : List (MessageEnd (Unit {0}))) (rows : List Row) → IsRecovered rules size os ms notes found rows
    → (i : ℕ) (row : Row) (o : Opening) → slice_get rows i ≡ Some row → slice_get os i ≡ Some o → row.reserved + row.charged ≤ o.credits
