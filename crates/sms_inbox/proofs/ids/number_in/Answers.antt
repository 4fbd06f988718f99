use Rattle.std.proofs.Common.{arith, ◌∙◌, sym, ◌+◌, ◌*◌, ◌<◌, get_or}
use Rattle.std.specs.Char.{digit_value}
use Rattle.sms_inbox.proofs.Keys.{number_read, too_large}
use Rattle.sms_inbox.proofs.ids.number_in.Goals as goal

pub returns-in_err-checked_mul : goal.returns-in_err-checked_mul
returns-in_err-checked_mul c =
    let over : 0xFFFF_FFFF_FFFF_FFFF < c.loop-c.number * c.args.radix + digit_value (get_or c.args.digits.now c.loop-c.c-index 0) = omega (arith, c.in_err-checked_mul.ensures) in
    c.from_residual.ensures ∙ sym (too_large c.args.radix c.loop-c.number c.loop-c.c-index c.args.digits.now c.requires c.loop-c.invariant.value (omega arith) over)

pub returns-in_err-number : goal.returns-in_err-number
returns-in_err-number c =
    let over : 0xFFFF_FFFF_FFFF_FFFF < c.loop-c.number * c.args.radix + digit_value (get_or c.args.digits.now c.loop-c.c-index 0) = omega (arith, c.in_err-number.ensures, c.in_ok-checked_mul.ensures) in
    c.from_residual-in_err-number.ensures ∙ sym (too_large c.args.radix c.loop-c.number c.loop-c.c-index c.args.digits.now c.requires c.loop-c.invariant.value (omega arith) over)

pub returns : goal.returns
returns c = number_read c.args.radix c.loop-c.number c.loop-c.c-index c.args.digits.now c.loop-c-test.false c.loop-c.invariant.value c.loop-c.invariant.digits (sym c.is_empty.ensures ∙ c.if-is_empty.false) c.loop-c.invariant.low
