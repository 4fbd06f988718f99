use Rattle.std.proofs.Common.{◌≡◌, ◌<◌, length, Some, None, refl, sym, ap, ◌∙◌, rules}
use Rattle.std.specs.Prelude.{slice_get, slice_set}
use Rattle.std.proofs.lemmas.Option.{slice_get-get_or}
use Rattle.sms_worker.specs.Types.{SegmentEnd}
use Rattle.sms_message.specs.Ends.{segment_at}
use Rattle.sms_worker.specs.Steps.{Takes, emptied}
use Rattle.sms_worker.proofs.EndLemmas.{if_some, if_none, no_segment, segment_in, set_is_put, set_same}
use Rattle.sms_worker.proofs.state.places.take.Goals as goal

pub returns-then-place-len-clause-none : goal.returns-then-place-len-clause-none
returns-then-place-len-clause-none c = (refl, no_segment c.args.ends.now.items c.args.place.message c.args.place.part (search rules))

pub returns-clause-out : goal.returns-clause-out
returns-clause-out c =
    let es = c.args.ends.now.items in
    let k = c.args.place.message in
    let p = c.args.place.part in
    let e = c.index_mut-end.result.now in
    let low : k < length es = search rules in
    let there : slice_get es k ≡ Some e = slice_get-get_or es k e low ∙ ap Some (sym c.index_mut-end.ensures.value) in
    if_some _ (λ (s : SegmentEnd). Takes es k p s (slice_set es k c.take_part.new.end)) c.take_part.result (λ s h.
    let (at, out) = h in
    (segment_in es k p e there ∙ at, ap (slice_set es k) out ∙ set_is_put es k p e (emptied s) there)) c.take_part.ensures.out

pub returns-clause-none : goal.returns-clause-none
returns-clause-none c =
    let es = c.args.ends.now.items in
    let k = c.args.place.message in
    let p = c.args.place.part in
    let e = c.index_mut-end.result.now in
    let low : k < length es = search rules in
    let there : slice_get es k ≡ Some e = slice_get-get_or es k e low ∙ ap Some (sym c.index_mut-end.ensures.value) in
    if_none _ ((slice_set es k c.take_part.new.end ≡ es) × (segment_at es k p ≡ None)) c.take_part.result (λ h. (ap (slice_set es k) h.0 ∙ set_same es k e there, segment_in es k p e there ∙ h.1)) c.take_part.ensures.none
