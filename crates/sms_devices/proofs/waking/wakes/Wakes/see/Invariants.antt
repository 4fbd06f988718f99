use Rattle.std.proofs.Common.{length}
use Rattle.sms_devices.specs.Wakes.{Scanned}
use Rattle.sms_devices.proofs.waking.wakes.Wakes.see.Given as goal

abbrev pub invariant-loop-rest : goal.invariant-loop-rest
invariant-loop-rest l = Scanned l.octets l.rest l.fn.headers l.headers l.fn.self l.self

abbrev pub decreases-loop-rest : goal.decreases-loop-rest
decreases-loop-rest l = length l.rest
