use Rattle.std.proofs.Common.{length}
use Rattle.sms_inbox.proofs.Spelling.{IsWholeTo}
use Rattle.sms_inbox.proofs.lines.whole_len.Given as goal

abbrev pub invariant-loop-line : goal.invariant-loop-line
invariant-loop-line l = IsWholeTo l.text l.left l.whole

abbrev pub decreases-loop-line : goal.decreases-loop-line
decreases-loop-line l = length l.left
