use Rattle.std.specs.Prelude.{◌||◌}
use Rattle.sms_worker.proofs.Closing.{closes_stays, shut_stays}
use Rattle.sms_worker.proofs.Reasoning.{reasons_closed}
use Rattle.sms_worker.proofs.state.worker_state.WorkerState.close_line.Goals as goal

pub invariant_of-self : goal.invariant_of-self
invariant_of-self g c =
    let i = c.self.invariant in
    record {
      keeps = i.keeps;
      handed = i.handed;
      closing = closes_stays (c.self.inside.closed || c.self.inside.stop) (c.turns_are_over.new.self || c.self.inside.stop) c.self.inside.tally.ends (shut_stays c.self.inside.closed c.turns_are_over.new.self c.self.inside.stop c.self.inside.stop (λ _. c.turns_are_over.ensures.closed) (λ on. on)) i.closing;
      credit = i.credit;
      reasons = reasons_closed (λ _. c.turns_are_over.ensures.closed) i.reasons;
      order = i.order;
      ends_fit = i.ends_fit;
      pending_fit = i.pending_fit;
      opened_fit = i.opened_fit;
    }
