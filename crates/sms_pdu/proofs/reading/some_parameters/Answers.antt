use Rattle.std.proofs.Common.{◌≡◌, ◌<◌, ◌≤◌, ◌+◌, ◌++◌, ◌∷◌, [], length, arith}
use Rattle.std.proofs.lemmas.Result.{err_from_is_err_and}
use Rattle.std.proofs.lemmas.List.{length-append}
use Rattle.sms_pdu.specs.declared.parameter.Parameter.{Parameter}
use Rattle.sms_pdu.specs.Reading.{parameters_at}
use Rattle.sms_pdu.proofs.Told.{refused}
use Rattle.sms_pdu.proofs.Parameters.{goes_on, ends, is_done, parameter-shorter, is_some_length, is_no_length}
use Rattle.sms_pdu.proofs.reading.some_parameters.Goals as goal

pub returns-in_err-tag : goal.returns-in_err-tag
returns-in_err-tag c =
    let (fault, is, same) = err_from_is_err_and c.from_residual-in_err-tag.result c.from_residual-in_err-tag.ensures.1 in
    let some : 0 < length c.loop-rest.rest.now = is_some_length c.is_empty.result _ c.is_empty.ensures c.loop-rest-test.true in
    rw (is, same) (refused _ (λ params. params) _ _ (ends c.in_err-tag.field-0.0 c.loop-rest.list.items (length c.args.octets.now) c.loop-rest.rest.now (parameters_at c.args.octets.now) some c.loop-rest.invariant.room c.in_err-tag.ensures c.loop-rest.invariant.so_far))

pub loop-rest-smaller : goal.loop-rest-smaller
loop-rest-smaller c =
    let some : 0 < length c.loop-rest.rest.now = is_some_length c.is_empty.result _ c.is_empty.ensures c.loop-rest-test.true in
    parameter-shorter c.loop-rest.rest.now _ c.in_ok-tag.after.now some c.in_ok-tag.ensures

pub loop-rest-preserved : goal.loop-rest-preserved
loop-rest-preserved c =
    let list = c.loop-rest.list.items in
    let first : Parameter = record { tag = c.in_ok-tag.tag; value = c.in_ok-tag.value.now } in
    let some : 0 < length c.loop-rest.rest.now = is_some_length c.is_empty.result _ c.is_empty.ensures c.loop-rest-test.true in
    let shorter = parameter-shorter c.loop-rest.rest.now first c.in_ok-tag.after.now some c.in_ok-tag.ensures in
    let len : length (list ++ first ∷ []) ≡ length list + 1 = length-append list (first ∷ []) in
    let on = goes_on list (length c.args.octets.now) c.loop-rest.rest.now first c.in_ok-tag.after.now (parameters_at c.args.octets.now) some c.loop-rest.invariant.room c.in_ok-tag.ensures c.loop-rest.invariant.so_far in
    rw (c.in_ok-push.ensures.items, c.in_ok-value.ensures.unchanged) (record { room = rw len (omega (arith, c.loop-rest.invariant.room)); so_far = rw len on })

pub returns : goal.returns
returns c =
    let none : length c.loop-rest.rest.now ≤ 0 = is_no_length c.is_empty.result _ c.is_empty.ensures c.loop-rest-test.false in
    rw c.new.ensures (is_done c.loop-rest.list.items _ c.loop-rest.rest.now (parameters_at c.args.octets.now) none c.loop-rest.invariant.so_far)
