use Rattle.std.proofs.Common.{◌≡◌, ◌<◌, ◌≤◌, length, Some, sym, ap, ◌∙◌, rules}
use Rattle.std.specs.Prelude.{slice_get}
use Rattle.std.proofs.lemmas.Option.{slice_get-get_or}
use Rattle.sms_worker.specs.PendingState.{settled_one}
use Rattle.sms_worker.proofs.Pending.{changed_past, set_changed}
use Rattle.sms_worker.proofs.state.pending.settle_part.Goals as goal

pub returns-clause-settled : goal.returns-clause-settled
returns-clause-settled c =
    let xs = c.args.pending.now.items in
    let k = c.args.place.message in
    let low : k < length xs = search rules in
    let there : slice_get xs k ≡ Some c.index_mut-kept.result.now = slice_get-get_or xs k c.index_mut-kept.result.now low ∙ ap Some (sym c.index_mut-kept.ensures.value) in
    set_changed settled_one xs k c.index_mut-kept.result.now c.settle.new.self there c.settle.ensures

pub returns-then-place-len-clause-settled : goal.returns-then-place-len-clause-settled
returns-then-place-len-clause-settled c =
    let xs = c.args.pending.now.items in
    let past : length xs ≤ c.args.place.message = search rules in
    sym (changed_past settled_one xs c.args.place.message past)
