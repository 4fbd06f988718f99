use Rattle.std.proofs.Common.{length}
use Rattle.sms_inbox.proofs.Reading.{IsReadTo}
use Rattle.sms_inbox.proofs.lines.read_inbox.Given as goal

abbrev pub invariant-loop-line : goal.invariant-loop-line
invariant-loop-line l = IsReadTo l.text l.left l.records.items

abbrev pub decreases-loop-line : goal.decreases-loop-line
decreases-loop-line l = length l.left
