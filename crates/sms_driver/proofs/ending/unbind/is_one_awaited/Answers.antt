use Rattle.std.proofs.Common.{◌<◌, ◌≤◌, ◌∙◌, Some, length, sym, ap, arith, rules}
use Rattle.std.proofs.lemmas.Option.{slice_get-get_or}
use Rattle.sms_driver.proofs.Places.{one_done}
use Rattle.sms_driver.proofs.ending.unbind.is_one_awaited.Goals as goal

pub loop-place-preserved : goal.loop-place-preserved
loop-place-preserved g c =
    let place = c.loop-place.place in
    let binds = c.args.shared_binds.now in
    let seats = c.args.driver_seats.now in
    let low : place < length binds = search rules in
    one_done place binds seats c.index-shared_binds-place.result c.index-driver_seats-place.result c.loop-place.invariant
    (slice_get-get_or binds place c.index-shared_binds-place.result low ∙ ap Some (sym c.index-shared_binds-place.is))
    (slice_get-get_or seats place c.index-driver_seats-place.result (omega (arith, low, c.requires.length)) ∙ ap Some (sym c.index-driver_seats-place.is))
    c.if-is_awaited.ensures.none

pub returns-then-is_awaited-clause-sent : goal.returns-then-is_awaited-clause-sent
returns-then-is_awaited-clause-sent g c =
    let place = c.loop-place.place in
    let seats = c.args.driver_seats.now in
    let low : place < length c.args.shared_binds.now = search rules in
    (place, c.index-driver_seats-place.result, slice_get-get_or seats place c.index-driver_seats-place.result (omega (arith, low, c.requires.length)) ∙ ap Some (sym c.index-driver_seats-place.is), c.if-is_awaited.ensures.sent)

pub returns-clause-none : goal.returns-clause-none
returns-clause-none g c =
    let all : length c.args.shared_binds.now ≤ c.loop-place.place = search rules in
    λ place shared s low is own. c.loop-place.invariant place shared s (omega (arith, low, all)) is own
