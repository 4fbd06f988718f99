use Rattle.std.proofs.Common.{◌++◌, ◌∷◌, [], sym, ap, ◌∙◌}
use Rattle.sms_worker.specs.RunState.{RunState}
use Rattle.sms_worker.proofs.Keeping.{keeps_heard, heard_now}
use Rattle.sms_worker.proofs.state.worker_state.WorkerState.note.Goals as goal

pub invariant_of-self : goal.invariant_of-self
invariant_of-self g c =
    let i = c.self.invariant in
    let r = c.requires.more.0 in
    let e = c.requires.more.1 ∙ ap (λ (x : RunState). x.replies ++ r ∷ []) (sym c.self.view_is) in
    record {
      keeps = rw c.of.ensures (keeps_heard _ _ _ _ _ _ _ _ _ r i.keeps e);
      handed = i.handed;
      closing = i.closing;
      credit = i.credit;
      reasons = i.reasons;
      order = i.order;
      ends_fit = i.ends_fit;
      pending_fit = i.pending_fit;
      opened_fit = i.opened_fit;
    }

pub returns-clause-since : goal.returns-clause-since
returns-clause-since g c r is =
    let i = c.self.invariant in
    rw c.of.ensures (heard_now _ _ _ _ _ _ _ _ _ r i.keeps (is ∙ ap (λ (x : RunState). x.replies ++ r ∷ []) (sym c.self.view_is)))
