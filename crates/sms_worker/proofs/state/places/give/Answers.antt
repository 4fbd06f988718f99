use Rattle.std.proofs.Common.{◌≡◌, ◌<◌, length, Some, sym, ap, ◌∙◌, rules}
use Rattle.std.specs.Prelude.{slice_get, slice_set}
use Rattle.std.proofs.lemmas.Option.{slice_get-get_or}
use Rattle.sms_worker.proofs.EndLemmas.{end_at, get_low, segment_in, set_is_put}
use Rattle.sms_worker.proofs.state.places.give.Goals as goal

pub index_mut-end-requires : goal.index_mut-end-requires
index_mut-end-requires c =
    let e = end_at c.args.ends.now.items c.args.place.message c.args.place.part c.requires.exists.0 c.requires.exists.1 in
    let low : c.args.place.message < length c.args.ends.now.items = get_low c.args.ends.now.items c.args.place.message e.0 e.1 in
    search rules

pub give_part-requires : goal.give_part-requires
give_part-requires c =
    let es = c.args.ends.now.items in
    let k = c.args.place.message in
    let e = end_at es k c.args.place.part c.requires.exists.0 c.requires.exists.1 in
    let there : slice_get es k ≡ Some c.index_mut-end.result.now = slice_get-get_or es k c.index_mut-end.result.now (get_low es k e.0 e.1) ∙ ap Some (sym c.index_mut-end.ensures.value) in
    (c.requires.exists.0, sym (segment_in es k c.args.place.part c.index_mut-end.result.now there) ∙ c.requires.exists.1)

pub returns-clause-now : goal.returns-clause-now
returns-clause-now c =
    let es = c.args.ends.now.items in
    let k = c.args.place.message in
    let e = end_at es k c.args.place.part c.requires.exists.0 c.requires.exists.1 in
    let there : slice_get es k ≡ Some c.index_mut-end.result.now = slice_get-get_or es k c.index_mut-end.result.now (get_low es k e.0 e.1) ∙ ap Some (sym c.index_mut-end.ensures.value) in
    ap (slice_set es k) c.give_part.ensures ∙ set_is_put es k c.args.place.part c.index_mut-end.result.now c.args.segment there
