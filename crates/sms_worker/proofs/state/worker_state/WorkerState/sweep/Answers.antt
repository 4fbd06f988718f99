use Rattle.std.proofs.Common.{length, inl, inr, ap, arith}
use Rattle.sms_worker.specs.RunState.{RunState}
use Rattle.sms_worker.proofs.state.worker_state.WorkerState.sweep.Goals as goal

pub returns-clause-settled : goal.returns-clause-settled
returns-clause-settled g c j q s got here =
    let i = c.loop-message.invariant in
    let e = ap (λ (x : RunState). length x.ends) c.self.view_is in
    let n = ap length c.ends-begun.ensures.ends in
    i.settled j q s got (elim here [ inl lt ↦ inl (omega arith) | inr eq ↦ absurd (let z = eq.1 in omega arith) ])
