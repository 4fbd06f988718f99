use Rattle.std.proofs.Common.{◌≡◌, ◌+◌, ◌-◌, ◌∙◌, ℕ, [], ◌∷◌, length, length-append, map, ap, arith, rules, refl, sym, subst}
use Rattle.std.specs.List.{AllByRecursion}
use Rattle.std.specs.Vec.Iter.{into_iter_items}
use Rattle.sms_driver.specs.Seated.{placement_at}
use Rattle.sms_driver.proofs.Placements.{one_sits, none_sit}
use Rattle.sms_driver.proofs.Windows.{map_more}
use Rattle.sms_driver.proofs.Moves.{moved}
use Rattle.sms_pdu.proofs.Fronts.{AllByRecursion-append}
use Rattle.sms_driver.proofs.threads.placement.seat_workers.Goals as goal

pub loop-worker-preserved : goal.loop-worker-preserved
loop-worker-preserved g c =
    let i = c.loop-worker.invariant in
    let before = c.len-before.result in
    let takes = c.in-Some.ensures.steps.0 in
    let here : c.len.result ≡ length c.loop-worker.places.items = omega (arith, c.len.ensures) in
    let adds : length c.push.new.self.items ≡ length c.loop-worker.places.items + 1 = ap length c.in_ok-push.ensures.items ∙ length-append c.loop-worker.places.items (_ ∷ []) in
    let from = i.from in
    let next : length c.push.new.self.items - before ≡ length c.loop-worker.places.items - before + 1 = omega (arith, adds, from) in
    record {
      rest = search rules;
      own =
          let h = subst (AllByRecursion (λ w. w.seat.window ≡ c.args.shared.now.window)) takes i.rest in
          subst (AllByRecursion (λ p. p.seat.window ≡ p.window.now)) (sym c.in_ok-push.ensures.items) (AllByRecursion-append (λ p. p.seat.window ≡ p.window.now) c.loop-worker.places.items (_ ∷ []) i.own (h.0, tt));
      windows = moved (λ p. p.seat.window) (λ w. w.seat.window) c.loop-worker.places.items _ (into_iter_items c.loop-worker.worker-iterator) _ _ _ _ c.in_ok-push.ensures.items takes refl i.windows;
      rings = moved (λ p. p.consumer) (λ w. w.consumer) c.loop-worker.places.items _ (into_iter_items c.loop-worker.worker-iterator) _ _ _ _ c.in_ok-push.ensures.items takes refl i.rings;
      from = omega (arith, adds, from);
      placements =
          one_sits c.args.shared.now (c.len.result - before) (length c.loop-worker.places.items - before) (length c.push.new.self.items - before) _ _ _ (map placement_at c.loop-worker.places.items) _ _ takes
          (ap (λ (n : ℕ). n - before) here) next (ap (map placement_at) c.in_ok-push.ensures.items ∙ map_more placement_at c.loop-worker.places.items _) i.placements;
      long = let long = i.long in let left = ap length takes in omega (arith, adds, long, left);
    }

pub returns-clause-placements : goal.returns-clause-placements
returns-clause-placements g c = none_sit c.args.shared.now _ (into_iter_items c.loop-worker.worker-iterator) _ _ (search rules) c.loop-worker.invariant.placements
