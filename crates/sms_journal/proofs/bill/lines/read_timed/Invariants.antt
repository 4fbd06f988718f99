use Rattle.std.proofs.Common.{◌≡◌, ℕ, List, ◌++◌, length}
use Rattle.sms_journal.specs.Lines.{AreLines}
use Rattle.sms_journal.specs.TimedLines.{AreTimedLines}
use Rattle.sms_journal.proofs.bill.lines.read_timed.Given as goal

abbrev pub invariant-loop-at : goal.invariant-loop-at
invariant-loop-at l = (lines : List ℕ) × AreLines lines l.notes.items × (l.text ≡ lines ++ l.left) × AreTimedLines lines l.times.items l.notes.items

abbrev pub decreases-loop-at : goal.decreases-loop-at
decreases-loop-at l = length l.left
