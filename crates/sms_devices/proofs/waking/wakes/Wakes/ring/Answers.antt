use Rattle.std.proofs.Common.{arith}
use Rattle.sms_devices.proofs.Scanning.{left_step}
use Rattle.sms_devices.proofs.waking.wakes.Wakes.ring.Goals as goal

pub loop-worker-preserved : goal.loop-worker-preserved
loop-worker-preserved g c =
    left_step c.loop-worker.worker c.args.self.now.workers c.loop-worker.self c.take_worker.new.self (omega arith) c.loop-worker.invariant c.take_worker.ensures.left
