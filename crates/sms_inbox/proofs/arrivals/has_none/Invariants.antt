use Rattle.std.proofs.Common.{◌≡◌, [], length}
use Rattle.sms_pdu.specs.Streams.{Went}
use Rattle.sms_inbox.specs.Arrivals.{deliveries}
use Rattle.sms_inbox.proofs.arrivals.has_none.Given as goal

abbrev pub invariant-loop-length : goal.invariant-loop-length
invariant-loop-length l = Went (λ fs. deliveries fs ≡ []) l.stream l.left

abbrev pub decreases-loop-length : goal.decreases-loop-length
decreases-loop-length l = length l.left
