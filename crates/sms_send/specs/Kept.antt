-- What is kept of a sending for the ledger that its accounts are of.
use Rattle.std.specs.Prelude.{◌≡◌, ℕ, List, Option, Some, None, Result, Ok, Err, IfOk}
use Rattle.std.specs.Io.KnownBytes.{Appends}
use Rattle.sms_core.specs.declared.row.Row.{Row}
use Rattle.sms_files.specs.Output.{WritesFront}
use Rattle.sms_journal.specs.Left.{count_left}
use Rattle.sms_send.specs.Faults.{output_failed}
use Rattle.sms_send.specs.Sent.{report_of_sent}
use Rattle.sms_send.specs.declared.faults.fault.Fault.{Fault}
use Rattle.sms_send.specs.declared.sending.kept.Kept.{Kept as TheKept}
use Rattle.sms_send.specs.declared.sending.work.SentWork.{SentWork}
use Rattle.sms_send.specs.declared.sending.work.SentWork.TheVariants.{Resumed, Whole}

-- the report was printed, or its output failed
abbrev pub HasPrinted : Result ℕ Fault → Type 0
HasPrinted (Ok status) = Unit {0}
HasPrinted (Err fault) = fault ≡ output_failed

-- the rows of what was sent, and how many messages that leaves
abbrev pub rows_of_sent : SentWork → List Row
rows_of_sent (Whole ended) = ended.statement
rows_of_sent (Resumed run) = run.statement

abbrev pub left_of_sent : SentWork → ℕ
left_of_sent (Whole ended) = count_left ended.ends.items
left_of_sent (Resumed run) = count_left run.ends.items

-- they are those of the report that was printed, or of which the beginning was
pub record IsKept (old new : Option (List ℕ)) (result : Result ℕ Fault) (kept : TheKept) : Type 0 where
  pub sent : SentWork
  pub rows : kept.rows.items ≡ rows_of_sent sent
  pub left : kept.left ≡ left_of_sent sent
  pub begun : HasPrinted result
  pub front : WritesFront old new (report_of_sent sent)
  pub whole : IfOk result (λ status. Appends old new (report_of_sent sent))

-- nothing is said where none are kept: no report was formed, or memory was refused
abbrev pub KeepsSent : Option (List ℕ) → Option (List ℕ) → Result ℕ Fault → Option TheKept → Type 0
KeepsSent old new result None = Unit {0}
KeepsSent old new result (Some kept) = IsKept old new result kept

-- the same behind the end of a journal: that this failed is a fault after the whole report
abbrev pub KeepsThrough : Option (List ℕ) → Option (List ℕ) → Result ℕ Fault → Option TheKept → Type 0
KeepsThrough old new result kept = (sent : Result ℕ Fault) × KeepsSent old new sent kept × IfOk result (λ status. sent ≡ Ok status)
