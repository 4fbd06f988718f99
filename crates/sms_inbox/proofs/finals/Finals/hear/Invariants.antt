use Rattle.std.proofs.Common.{length}
use Rattle.sms_inbox.proofs.finals.Finals.hear.Given as goal

abbrev pub decreases-loop-length : goal.decreases-loop-length
decreases-loop-length l = length l.left
