use Rattle.std.proofs.Common.{rules, arith, ◌∙◌, sym, ◌+◌, ◌*◌, ◌<◌, get_or}
use Rattle.std.specs.Char.{digit_value}
use Rattle.std.proofs.lemmas.Str.{digit_value_digit}
use Rattle.sms_core.proofs.Digits.{too-large}
use Rattle.sms_core.proofs.decimal.decimal_of.Goals as goal

pub returns-in_err-checked_mul : goal.returns-in_err-checked_mul
returns-in_err-checked_mul c =
    let fits = c.ranges.most.fits in
    let over : c.args.most < c.loop-digit.number * 10 + digit_value (get_or c.args.text.now c.loop-digit.digit-index 0) = omega (arith, c.in_err-checked_mul.ensures) in
    c.from_residual.ensures ∙ sym (too-large c.args.most c.loop-digit.number c.loop-digit.digit-index c.args.text.now c.loop-digit.invariant.value (omega arith) over)

pub returns-in_err-number : goal.returns-in_err-number
returns-in_err-number c =
    let fits = c.ranges.most.fits in
    let digit = digit_value_digit (get_or c.args.text.now c.loop-digit.digit-index 0) (search rules) in
    let over : c.args.most < c.loop-digit.number * 10 + digit_value (get_or c.args.text.now c.loop-digit.digit-index 0) = omega (arith, c.in_err-number.ensures, c.from.ensures, c.in_ok-checked_mul.ensures) in
    c.from_residual-in_err-number.ensures ∙ sym (too-large c.args.most c.loop-digit.number c.loop-digit.digit-index c.args.text.now c.loop-digit.invariant.value (omega arith) over)
