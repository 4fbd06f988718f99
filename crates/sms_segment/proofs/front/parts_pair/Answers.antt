use Rattle.std.proofs.Common.{◌≡◌, ◌-◌, true, false, sym, ◌∙◌, arith}
use Rattle.std.specs.Prelude.{take, slice_index}
use Rattle.sms_alphabet.specs.declared.coded.Coding.TheVariants.{Ucs2}
use Rattle.sms_segment.specs.Group.{opens}
use Rattle.sms_segment.specs.Front.{is_open}
use Rattle.sms_segment.proofs.EscapeLemmas.{and_true, is_open-surrogate}
use Rattle.sms_segment.proofs.front.parts_pair.Goals as goal

pub returns-in-Gsm : goal.returns-in-Gsm
returns-in-Gsm c = rw c.in-Gsm.is (c.ends_in_escape.ensures ∙ sym (and_true _))

pub returns-then-is_high_surrogate : goal.returns-then-is_high_surrogate
returns-then-is_high_surrogate c =
    let odd : is_open Ucs2 (take c.args.at c.args.units.now) ≡ opens Ucs2 (slice_index c.args.units.now (c.args.at - 1)) = is_open-surrogate c.args.units.now c.args.at c.requires.positive (omega arith) in
    let high : opens Ucs2 (slice_index c.args.units.now (c.args.at - 1)) ≡ true = sym c.is_high_surrogate.ensures ∙ c.if-is_high_surrogate.true in
    rw (c.in-Ucs2.is, odd, high) c.is_low_surrogate.ensures

pub returns-else-is_high_surrogate : goal.returns-else-is_high_surrogate
returns-else-is_high_surrogate c =
    let odd : is_open Ucs2 (take c.args.at c.args.units.now) ≡ opens Ucs2 (slice_index c.args.units.now (c.args.at - 1)) = is_open-surrogate c.args.units.now c.args.at c.requires.positive (omega arith) in
    let high : opens Ucs2 (slice_index c.args.units.now (c.args.at - 1)) ≡ false = sym c.is_high_surrogate.ensures ∙ c.if-is_high_surrogate.false in
    rw (c.in-Ucs2.is, odd, high) c.if-is_high_surrogate.false
