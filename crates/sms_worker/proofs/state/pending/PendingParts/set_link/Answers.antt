use Rattle.std.proofs.Common.{◌≡◌, ◌<◌, ◌≤◌, List, length, Some, refl, sym, ap, ◌∙◌, subst, rules}
use Rattle.std.specs.Prelude.{slice_get}
use Rattle.std.proofs.lemmas.Option.{slice_get-get_or}
use Rattle.sms_worker.specs.declared.state.pending.PendingPart.{PendingPart}
use Rattle.sms_worker.specs.PendingState.{PendingState, with_link}
use Rattle.sms_worker.proofs.Pending.{changed_past, set_changed}
use Rattle.sms_worker.proofs.state.pending.PendingParts.set_link.Goals as goal

pub returns-then-part-len : goal.returns-then-part-len
returns-then-part-len c =
    let xs = c.self.inside.parts.items in
    let part = c.args.part in
    let link = c.args.link in
    let low : part < length xs = search rules in
    let there : slice_get xs part ≡ Some c.index_mut.result.now = slice_get-get_or xs part c.index_mut.result.now low ∙ ap Some (sym c.index_mut.ensures.value) in
    ap (λ (l : List PendingPart). record { parts = l; unsettled = c.self.inside.unsettled }) (set_changed (λ (kept : PendingPart). record kept { link = link }) xs part c.index_mut.result.now (record c.index_mut.result.now { link = link }) there refl) ∙ ap (with_link part link) c.self.view_is

pub returns-else-part-len : goal.returns-else-part-len
returns-else-part-len c =
    let t = c.args.self.now in
    let link = c.args.link in
    let long : length c.self.inside.parts.items ≡ length t.parts = ap (λ (x : PendingState). length x.parts) c.self.view_is in
    let past : length c.self.inside.parts.items ≤ c.args.part = search rules in
    sym (ap (λ (l : List PendingPart). record { parts = l; unsettled = t.unsettled }) (changed_past (λ (kept : PendingPart). record kept { link = link }) t.parts c.args.part (subst (λ n. n ≤ c.args.part) long past)))
