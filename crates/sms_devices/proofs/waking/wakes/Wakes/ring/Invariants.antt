use Rattle.std.proofs.Common.{◌≡◌, ◌++◌, drop, false, replicate}
use Rattle.sms_devices.proofs.waking.wakes.Wakes.ring.Given as goal

abbrev pub invariant-loop-worker : goal.invariant-loop-worker
invariant-loop-worker g l = l.self ≡ record { all = false; workers = replicate l.worker false ++ drop l.worker l.fn.self.workers }
