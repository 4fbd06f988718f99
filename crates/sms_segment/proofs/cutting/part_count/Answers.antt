use Rattle.std.proofs.Common.{◌≡◌, ◌<◌, ◌+◌, length, drop, refl, sym, ap, ◌∙◌, arith}
use Rattle.std.proofs.lemmas.Bool.{eqb-false}
use Rattle.sms_segment.specs.Group.{groups}
use Rattle.sms_segment.specs.Cutting.{full_cutting}
use Rattle.sms_segment.proofs.TextLemmas.{parts_left, some_parts}
use Rattle.sms_segment.proofs.cutting.part_count.Goals as goal

pub loop-rest-preserved : goal.loop-rest-preserved
loop-rest-preserved c =
    let nonzero : length c.loop-rest.rest.now ≡ 0 → ⊥ = eqb-false _ _ (sym c.is_empty.ensures ∙ c.loop-rest-test.true) in
    let some : 0 < length c.loop-rest.rest.now = omega arith in
    let step : length (full_cutting c.args.limit (groups c.args.coding c.loop-rest.rest.now)) ≡ 1 + length (full_cutting c.args.limit (groups c.args.coding (drop c.front_len.result c.loop-rest.rest.now))) =
    parts_left c.args.coding c.args.limit c.loop-rest.rest.now c.front_len.result some c.front_len.ensures in
    let back : length (full_cutting c.args.limit (groups c.args.coding c.split_at.result.1.now)) ≡ length (full_cutting c.args.limit (groups c.args.coding (drop c.front_len.result c.loop-rest.rest.now))) =
    ap (λ units. length (full_cutting c.args.limit (groups c.args.coding units))) c.split_at.ensures.back in
    omega (arith, c.loop-rest.invariant)

pub returns-then-count-clause-none : goal.returns-then-count-clause-none
returns-then-count-clause-none c =
    let nonzero : length c.loop-rest.rest.now ≡ 0 → ⊥ = eqb-false _ _ (sym c.is_empty.ensures ∙ c.loop-rest-test.true) in
    let more : 0 < length (full_cutting c.args.limit (groups c.args.coding c.loop-rest.rest.now)) = some_parts c.args.coding c.args.limit c.loop-rest.rest.now (omega arith) in
    (λ e. omega (arith, c.loop-rest.invariant), λ many. refl)
