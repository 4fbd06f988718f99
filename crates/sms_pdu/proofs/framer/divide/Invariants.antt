use Rattle.std.proofs.Common.{◌≡◌, length}
use Rattle.sms_pdu.specs.Streams.{Went}
use Rattle.sms_pdu.proofs.framer.divide.Given as goal

abbrev pub invariant-taking : goal.invariant-taking
invariant-taking l = Went (λ fs. fs ≡ l.frames.items) l.stream l.left

abbrev pub decreases-taking : goal.decreases-taking
decreases-taking l = length l.left
