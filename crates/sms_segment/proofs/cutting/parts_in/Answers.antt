use Rattle.std.proofs.Common.{◌≤◌, ◌<◌, length, refl, sym, ap, ◌∙◌, inl, inr, arith}
use Rattle.std.proofs.lemmas.Bool.{cases_lt, true≢false}
use Rattle.sms_segment.specs.Group.{groups}
use Rattle.sms_segment.specs.Limits.{single_limit}
use Rattle.sms_segment.specs.Cutting.{full_cutting}
use Rattle.sms_segment.proofs.TextLemmas.{parts_of-short, length-text_parts, length-parts_of, some-parts_of, short_is_not_too_long, not_too_long, too_long}
use Rattle.sms_segment.proofs.cutting.parts_in.Goals as goal

pub returns-then-single_limit-len-clause-count : goal.returns-then-single_limit-len-clause-count
returns-then-single_limit-len-clause-count c =
    let short : length c.args.text.now.units ≤ single_limit c.args.text.now.coding = omega (arith, c.len.ensures, c.single_limit.ensures) in
    sym (ap length (parts_of-short c.args.text.now c.args.reference short))

pub returns-then-single_limit-len-clause-none : goal.returns-then-single_limit-len-clause-none
returns-then-single_limit-len-clause-none c =
    let short : length c.args.text.now.units ≤ single_limit c.args.text.now.coding = omega (arith, c.len.ensures, c.single_limit.ensures) in
    (λ e. cc, λ each. absurd (short_is_not_too_long c.args.text.now c.args.reference short each))

pub returns-in-Some-clause-count : goal.returns-in-Some-clause-count
returns-in-Some-clause-count c =
    let long : single_limit c.args.text.now.coding < length c.args.text.now.units = omega (arith, c.len.ensures, c.single_limit.ensures) in
    c.in-Some.ensures.count ∙ sym (length-text_parts c.args.text.now c.args.reference c.part_limit-limit.result c.as_slice.result.now long c.part_limit-limit.ensures c.as_slice.ensures) ∙ sym (length-parts_of c.args.text.now c.args.reference)

pub returns-in-Some-clause-some : goal.returns-in-Some-clause-some
returns-in-Some-clause-some c =
    let long : single_limit c.args.text.now.coding < length c.args.text.now.units = omega (arith, c.len.ensures, c.single_limit.ensures) in
    let is = c.in-Some.ensures.count ∙ sym (length-text_parts c.args.text.now c.args.reference c.part_limit-limit.result c.as_slice.result.now long c.part_limit-limit.ensures c.as_slice.ensures) ∙ sym (length-parts_of c.args.text.now c.args.reference) in
    let some = some-parts_of c.args.text.now c.args.reference in
    omega arith

pub returns-in-Some-clause-none : goal.returns-in-Some-clause-none
returns-in-Some-clause-none c =
    let long : single_limit c.args.text.now.coding < length c.args.text.now.units = omega (arith, c.len.ensures, c.single_limit.ensures) in
    let same = length-text_parts c.args.text.now c.args.reference c.part_limit-limit.result c.as_slice.result.now long c.part_limit-limit.ensures c.as_slice.ensures in
    elim (cases_lt 255 (length (full_cutting c.part_limit-limit.result (groups c.args.text.now.coding c.as_slice.result.now)))) [
      | inl many ↦ absurd (true≢false (c.in-Some.ensures.none.1 many))
      | inr small ↦ (λ e. cc, λ each. absurd (not_too_long c.args.text.now c.args.reference (omega arith) each))
    ]

pub returns-in-None-clause-none : goal.returns-in-None-clause-none
returns-in-None-clause-none c =
    let long : single_limit c.args.text.now.coding < length c.args.text.now.units = omega (arith, c.len.ensures, c.single_limit.ensures) in
    let same = length-text_parts c.args.text.now c.args.reference c.part_limit-limit.result c.as_slice.result.now long c.part_limit-limit.ensures c.as_slice.ensures in
    let many = c.in-None.ensures.none.0 refl in
    (λ e. too_long c.args.text.now c.args.reference (omega arith), λ each. refl)
