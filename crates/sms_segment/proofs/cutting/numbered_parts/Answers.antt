use Rattle.std.proofs.Common.{◌≡◌, ◌<◌, ◌+◌, ◌++◌, ◌∷◌, [], Some, length, drop, ap, ◌∙◌, arith}
use Rattle.sms_segment.specs.Group.{groups}
use Rattle.sms_segment.specs.Cutting.{full_cutting}
use Rattle.sms_segment.proofs.TextLemmas.{some_left, parts_left, numbered-step}
use Rattle.sms_segment.proofs.cutting.numbered_parts.Goals as goal

pub loop-before-preserved : goal.loop-before-preserved
loop-before-preserved c =
    let limit = c.part_limit-limit.result in
    let coding = c.args.text.now.coding in
    let units = c.loop-before.rest.now in
    let some : 0 < length c.loop-before.rest.now = some_left coding limit units (omega (arith, c.loop-before.invariant.0)) in
    let step : length (full_cutting limit (groups coding units)) ≡ 1 + length (full_cutting limit (groups coding (drop c.front_len.result units))) = parts_left coding limit units c.front_len.result some c.front_len.ensures in
    let back : length (full_cutting limit (groups coding c.split_at.result.1.now)) ≡ length (full_cutting limit (groups coding (drop c.front_len.result units))) =
    ap (λ rest. length (full_cutting limit (groups coding rest))) c.split_at.ensures.back in
    let front : c.in_ok-from_slice.field-0.items ≡ c.split_at.result.0.now = c.in_ok-from_slice.ensures.items in
    let pushed : c.push.new.self.items ≡ c.loop-before.parts.items ++ record { coding = coding; place = Some (record { reference = c.args.reference; count = c.args.count; number = c.loop-before.before + 1 }); units = c.new.result } ∷ [] = c.in_ok-push.ensures.items in (
      omega (arith, c.loop-before.invariant.0),
      numbered-step coding c.args.reference c.args.count limit _ c.loop-before.parts.items c.push.new.self.items units c.new.result c.split_at.result.1.now c.front_len.result c.loop-before.before some c.front_len.ensures (c.new.ensures ∙ front ∙ c.split_at.ensures.front) c.split_at.ensures.back c.loop-before.invariant.1 pushed,
    )
