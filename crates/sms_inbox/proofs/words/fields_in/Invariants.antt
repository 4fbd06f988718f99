use Rattle.std.proofs.Common.{length}
use Rattle.sms_inbox.specs.Words.{words}
use Rattle.sms_inbox.proofs.Splits.{AreSaid}
use Rattle.sms_inbox.proofs.words.fields_in.Given as goal

abbrev pub invariant-loop-seen : goal.invariant-loop-seen
invariant-loop-seen l = AreSaid l.found (words l.left) l.text

abbrev pub decreases-loop-seen : goal.decreases-loop-seen
decreases-loop-seen l = length l.left
