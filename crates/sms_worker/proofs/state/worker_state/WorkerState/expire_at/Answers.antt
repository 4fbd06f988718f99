use Rattle.std.proofs.Common.{◌≡◌, ◌<◌, length, Some, sym, ap, ◌∙◌, subst}
use Rattle.std.specs.Prelude.{slice_get}
use Rattle.std.proofs.lemmas.Option.{slice_get-get_or}
use Rattle.sms_window.proofs.OpenSlots.{one_less_at}
use Rattle.sms_worker.specs.RunState.{RunState}
use Rattle.sms_worker.specs.declared.state.open.Open.{Open}
use Rattle.sms_worker.proofs.state.worker_state.WorkerState.expire_at.Goals as goal

pub expire-requires-clause-slot : goal.expire-requires-clause-slot
expire-requires-clause-slot g c =
    let opened = c.self.inside.opened.items in
    let i = c.count-i.result in
    let low' : c.args.answered.now.count < length opened = subst (λ (x : RunState). c.args.answered.now.count < length x.opened) (sym c.self.view_is) c.requires.waits in
    let low : i < length opened = subst (λ n. n < length opened) (sym c.count-i.ensures) low' in
    let at : slice_get opened i ≡ Some c.index-open.result.now = slice_get-get_or opened i c.index-open.result.now low ∙ ap Some (sym c.index-open.ensures) in
    (one_less_at (λ (x : Open). x.slot) _ _ opened i c.index-open.result.now c.self.invariant.keeps.slots at).within
