use Rattle.std.proofs.Common.{◌≡◌, ◌≤◌, ◌-◌, ◌∙◌, ap, rules, sym, subst}
use Rattle.std.specs.Vec.{vec_len}
use Rattle.sms_worker.specs.Queues.{due_after}
use Rattle.sms_worker.specs.Rising.{WasSent}
use Rattle.sms_worker.specs.RunState.{RunState}
use Rattle.sms_worker.proofs.Rising.{order_pushed}
use Rattle.sms_worker.proofs.Turning.{waits_at}
use Rattle.sms_worker.proofs.state.worker_state.WorkerState.follow.Goals as goal

pub invariant_of-self : goal.invariant_of-self
invariant_of-self g c =
    let i = c.self.invariant in
    let room = c.push.ensures.room in
    let sent = subst (λ (x : RunState). WasSent x.ends c.args.place) (sym c.self.view_is) c.requires.sent in
    record {
      keeps = rw c.push.ensures.unchanged i.keeps;
      handed = i.handed;
      closing = i.closing;
      credit = i.credit;
      reasons = i.reasons;
      order = order_pushed c.self.inside.tally.ends c.self.inside.next _ _ _ _ _ c.args.place sent c.push.ensures.heads c.push.ensures.links i.order;
      ends_fit = i.ends_fit;
      pending_fit = subst (λ n. vec_len c.self.inside.messages ≤ n) (sym room.1) i.pending_fit;
      opened_fit = i.opened_fit;
    }

pub returns-in-RetryAfter-clause-due : goal.returns-in-RetryAfter-clause-due
returns-in-RetryAfter-clause-due g c =
    let times : c.saturating_add-due_ms.result ≡ due_after c.ms-now_ms.result c.in-RetryAfter.ms = search rules in
    (c.in-RetryAfter.ms, c.in-RetryAfter.is, λ some few. waits_at _ _ c.self.view_is (c.args.attempts - 1) c.args.place c.saturating_add-due_ms.result (due_after c.of-now.result.at_ms c.in-RetryAfter.ms) _ _ (times ∙ ap (λ n. due_after n c.in-RetryAfter.ms) c.ms-now_ms.ensures) (c.push.ensures.waits some few))
