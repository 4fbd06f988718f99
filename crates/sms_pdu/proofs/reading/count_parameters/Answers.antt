use Rattle.std.proofs.Common.{◌<◌, ◌≤◌, length, sym}
use Rattle.std.proofs.lemmas.Result.{err_from_is_err_and}
use Rattle.sms_pdu.proofs.Parameters.{counted_none, counted_more, counted_ends, counted_done, parameter-shorter, is_some_length, is_no_length}
use Rattle.sms_pdu.proofs.reading.count_parameters.Goals as goal

pub loop-rest-init : goal.loop-rest-init
loop-rest-init c = counted_none c.args.octets.now

pub returns-in_err-after : goal.returns-in_err-after
returns-in_err-after c =
    let some : 0 < length c.loop-rest.rest.now = is_some_length c.is_empty.result _ c.is_empty.ensures c.loop-rest-test.true in
    let (fault, is, same) = err_from_is_err_and c.from_residual.result c.from_residual.ensures.1 in
    rw (is, same) (sym (counted_ends c.args.octets.now c.loop-rest.rest.now c.loop-rest.count c.in_err-after.field-0.0 some c.in_err-after.ensures c.loop-rest.invariant))

pub loop-rest-smaller : goal.loop-rest-smaller
loop-rest-smaller c =
    let some : 0 < length c.loop-rest.rest.now = is_some_length c.is_empty.result _ c.is_empty.ensures c.loop-rest-test.true in
    parameter-shorter c.loop-rest.rest.now _ c.in_ok-after.after.now some c.in_ok-after.ensures

pub loop-rest-preserved : goal.loop-rest-preserved
loop-rest-preserved c =
    let some : 0 < length c.loop-rest.rest.now = is_some_length c.is_empty.result _ c.is_empty.ensures c.loop-rest-test.true in
    counted_more c.args.octets.now c.loop-rest.rest.now c.loop-rest.count _ c.in_ok-after.after.now some c.in_ok-after.ensures c.loop-rest.invariant

pub returns : goal.returns
returns c =
    let none : length c.loop-rest.rest.now ≤ 0 = is_no_length c.is_empty.result _ c.is_empty.ensures c.loop-rest-test.false in
    sym (counted_done c.args.octets.now c.loop-rest.rest.now c.loop-rest.count none c.loop-rest.invariant)
