use Rattle.std.specs.Prelude.{◌||◌}
use Rattle.sms_worker.proofs.Closing.{closes_stays, shut_stays}
use Rattle.sms_worker.proofs.Reasoning.{reasons_closed}
use Rattle.sms_worker.proofs.state.worker_state.WorkerState.sees_closed.Goals as goal

pub invariant_of-self : goal.invariant_of-self
invariant_of-self g c =
    let i = c.self.invariant in
    record {
      keeps = i.keeps;
      handed = i.handed;
      closing = closes_stays (c.self.inside.closed || c.self.inside.stop) (c.look.new.self || c.self.inside.stop) c.self.inside.tally.ends (shut_stays c.self.inside.closed c.look.new.self c.self.inside.stop c.self.inside.stop c.look.ensures.stays (λ on. on)) i.closing;
      credit = i.credit;
      reasons = reasons_closed c.look.ensures.stays i.reasons;
      order = i.order;
      ends_fit = i.ends_fit;
      pending_fit = i.pending_fit;
      opened_fit = i.opened_fit;
    }
