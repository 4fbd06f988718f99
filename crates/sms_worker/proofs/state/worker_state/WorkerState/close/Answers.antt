use Rattle.std.proofs.Common.{◌≡◌, ◌<◌, length, Some, sym, ap, ◌∙◌, subst, arith}
use Rattle.std.specs.Prelude.{slice_get}
use Rattle.std.proofs.lemmas.Option.{slice_get-get_or}
use Rattle.sms_worker.proofs.Keeping.{keeps_closed}
use Rattle.sms_worker.proofs.Rising.{order_closed}
use Rattle.sms_worker.specs.RunState.{RunState}
use Rattle.sms_worker.specs.declared.state.open.Open.{Open}
use Rattle.sms_window.proofs.OpenSlots.{one_less_at}
use Rattle.sms_worker.proofs.state.worker_state.WorkerState.close.Goals as goal

pub release-requires-clause-held : goal.release-requires-clause-held
release-requires-clause-held g c =
    let i = c.self.invariant in
    let low : c.args.i < length c.self.inside.opened.items = subst (λ (x : RunState). c.args.i < length x.opened) (sym c.self.view_is) c.requires.waits in
    let at : slice_get c.self.inside.opened.items c.args.i ≡ Some c.remove-open.result = slice_get-get_or c.self.inside.opened.items c.args.i c.remove-open.result low ∙ ap Some (sym c.remove-open.ensures.value) in
    let less = one_less_at (λ (x : Open). x.slot) _ _ c.self.inside.opened.items c.args.i c.remove-open.result i.keeps.slots at in
    (less.within, less.held)

pub invariant_of-self : goal.invariant_of-self
invariant_of-self g c =
    let i = c.self.invariant in
    let low : c.args.i < length c.self.inside.opened.items = subst (λ (x : RunState). c.args.i < length x.opened) (sym c.self.view_is) c.requires.waits in
    let at : slice_get c.self.inside.opened.items c.args.i ≡ Some c.remove-open.result = slice_get-get_or c.self.inside.opened.items c.args.i c.remove-open.result low ∙ ap Some (sym c.remove-open.ensures.value) in
    let done = keeps_closed _ _ _ _ c.self.inside.opened.items _ c.release.new.seat _ _ c.args.i c.remove-open.result i.keeps at c.release.ensures.window c.release.ensures.freed in
    record {
      keeps = rw c.remove-open.ensures.items done;
      handed = i.handed;
      closing = i.closing;
      credit = i.credit;
      reasons = i.reasons;
      order = rw c.remove-open.ensures.items (order_closed c.self.inside.tally.ends c.self.inside.next c.self.inside.opened.items c.self.inside.queues.all c.self.inside.pending.items c.args.i i.order);
      ends_fit = i.ends_fit;
      pending_fit = i.pending_fit;
      opened_fit = (let r = i.opened_fit in let e = c.remove-open.ensures.capacity in omega arith);
    }
