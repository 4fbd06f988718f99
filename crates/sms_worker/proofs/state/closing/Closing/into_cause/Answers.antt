use Rattle.std.proofs.Common.{None, sym, subst}
use Rattle.sms_worker.specs.Closing.{IsSeen}
use Rattle.sms_worker.proofs.Closing.{stopped_so}
use Rattle.sms_worker.proofs.state.closing.Closing.into_cause.Goals as goal

pub returns-in-None-clause-seen : goal.returns-in-None-clause-seen
returns-in-None-clause-seen g c =
    let start = g.C.WorkerStart.start in
    subst (λ r. IsSeen start.rules.turns start.mark start.messages r None) (sym c.stopped_by.ensures) (stopped_so start.rules.turns start.mark start.messages c.into_refusal.result c.into_refusal.ensures.of)
