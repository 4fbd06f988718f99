use Rattle.std.proofs.Common.{◌<◌, length, ap, rules, arith}
use Rattle.std.specs.Prelude.{◌-◌}
use Rattle.sms_worker.specs.RunState.{RunState}
use Rattle.sms_worker.proofs.Finding.{counted_there}
use Rattle.sms_worker.proofs.state.worker_state.WorkerState.next_part.Goals as goal

pub returns-clause-exists : goal.returns-clause-exists
returns-clause-exists g c =
    let same = ap (λ (x : RunState). length x.ends) c.self.view_is in
    let n = ap length c.ends-begun.ensures.ends in
    let some : 0 < length c.ends-begun.result.now = search rules in
    counted_there c.args.self.now.ends (length c.ends-begun.result.now - 1) c.self.inside.next c.count.result c.count.ensures.exact (omega arith) (search rules)
