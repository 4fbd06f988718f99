use Rattle.std.proofs.Common.{◌≤◌, rules}
use Rattle.sms_worker.proofs.Rising.{order_on, order_popped}
use Rattle.sms_worker.proofs.state.worker_state.WorkerState.advance.Goals as goal

pub invariant_of-self : goal.invariant_of-self
invariant_of-self g c =
    let i = c.self.invariant in
    record {
      keeps = i.keeps;
      handed = i.handed;
      closing = i.closing;
      credit = i.credit;
      reasons = i.reasons;
      order = order_popped c.self.inside.tally.ends c.self.inside.next c.self.inside.opened.items c.self.inside.queues.all c.pop.new.self.all c.self.inside.pending.items c.as_slice.result.now c.as_slice.ensures.value c.pop.ensures.heads i.order;
      ends_fit = i.ends_fit;
      pending_fit = i.pending_fit;
      opened_fit = i.opened_fit;
    }

pub invariant_of-self-in-Next : goal.invariant_of-self-in-Next
invariant_of-self-in-Next g c =
    let i = c.self.invariant in
    let later : c.self.inside.next ≤ c.saturating_add-self-inside.result = search rules in
    record {
      keeps = i.keeps;
      handed = i.handed;
      closing = i.closing;
      credit = i.credit;
      reasons = i.reasons;
      order = order_on c.self.inside.tally.ends c.self.inside.next c.saturating_add-self-inside.result c.self.inside.opened.items c.self.inside.queues.all c.self.inside.pending.items later i.order;
      ends_fit = i.ends_fit;
      pending_fit = i.pending_fit;
      opened_fit = i.opened_fit;
    }
