use Rattle.std.proofs.Common.{◌≡◌, ◌<◌, ◌≤◌, length, Some, sym, ap, ◌∙◌, rules}
use Rattle.std.specs.Prelude.{slice_get}
use Rattle.std.proofs.lemmas.Option.{slice_get-get_or}
use Rattle.sms_worker.specs.PendingState.{with_link}
use Rattle.sms_worker.proofs.Pending.{changed_past, set_changed}
use Rattle.sms_worker.proofs.state.queue.set_link_at.Goals as goal

pub returns-clause-linked : goal.returns-clause-linked
returns-clause-linked c =
    let xs = c.args.pending.now.items in
    let k = c.args.place.message in
    let low : k < length xs = search rules in
    let there : slice_get xs k ≡ Some c.index_mut-kept.result.now = slice_get-get_or xs k c.index_mut-kept.result.now low ∙ ap Some (sym c.index_mut-kept.ensures.value) in
    set_changed (with_link c.args.place.part c.args.link) xs k c.index_mut-kept.result.now c.set_link.new.self there c.set_link.ensures

pub returns-then-place-len-clause-linked : goal.returns-then-place-len-clause-linked
returns-then-place-len-clause-linked c =
    let xs = c.args.pending.now.items in
    let past : length xs ≤ c.args.place.message = search rules in
    sym (changed_past (with_link c.args.place.part c.args.link) xs c.args.place.message past)
