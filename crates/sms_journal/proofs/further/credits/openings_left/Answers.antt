use Rattle.std.proofs.Common.{◌≡◌, ◌++◌, ◌∷◌, [], arith, rules}
use Rattle.std.specs.Prelude.{string_bytes}
use Rattle.sms_journal.proofs.OverLists.{got_any, map_more}
use Rattle.sms_journal.proofs.further.credits.openings_left.Goals as goal

pub loop-place-preserved : goal.loop-place-preserved
loop-place-preserved c =
    let more : c.push.new.self.items ≡ c.loop-place.left.items ++ c.in_ok-opening.opening ∷ [] = search rules in
    record {
      names = map_more (λ o. string_bytes o.name) (λ o. string_bytes o.name) c.loop-place.left.items c.push.new.self.items c.args.openings.now c.loop-place.place c.in_ok-opening.opening c.index-openings-place.result more (omega arith) c.index-openings-place.is c.in_ok-opening.ensures.name c.loop-place.invariant.names;
      credits = map_more (λ o. o.credits) (λ row. row.free) c.loop-place.left.items c.push.new.self.items c.args.rows.now c.loop-place.place c.in_ok-opening.opening _ more (omega (arith, c.requires.each)) (got_any c.args.rows.now c.loop-place.place _ _ (omega (arith, c.requires.each))) c.in_ok-opening.ensures.credits c.loop-place.invariant.credits;
    }
