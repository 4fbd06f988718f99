use Rattle.std.proofs.Common.{◌≡◌, ℕ, [], ◌∷◌, ◌+◌, ◌-◌, ◌∙◌, length, length-append, ap, refl, sym, rules, arith, subst}
use Rattle.std.specs.List.{AllByRecursion}
use Rattle.std.specs.Vec.Iter.{into_iter_items}
use Rattle.sms_pdu.proofs.Fronts.{AllByRecursion-append}
use Rattle.sms_window.specs.declared.view.View.{View}
use Rattle.sms_window.specs.Names.{HasNames}
use Rattle.sms_window.proofs.Names.{can_split, gave_one}
use Rattle.sms_driver.proofs.Moves.{moved_in}
use Rattle.sms_driver.proofs.binding.seats.split_seats.Goals as goal

pub split-seat-requires-clause-names : goal.split-seat-requires-clause-names
split-seat-requires-clause-names c =
    let (n, more, few, has) = c.requires.names in
    let long = c.loop-consumer.invariant.long in
    let left = ap length c.in-Some.ensures.steps.0 in
    can_split (n - length c.loop-consumer.workers.items) c.loop-consumer.keeper.view (omega arith) (omega arith) (c.loop-consumer.invariant.names n more few has)

pub loop-consumer-preserved : goal.loop-consumer-preserved
loop-consumer-preserved c =
    let i = c.loop-consumer.invariant in
    let k = length c.loop-consumer.workers.items in
    let adds : length c.push_reserved.new.self.items ≡ k + 1 = ap length c.push_reserved.ensures.items ∙ length-append c.loop-consumer.workers.items (_ ∷ []) in
    let left = ap length c.in-Some.ensures.steps.0 in
    let long = i.long in
    record {
      own = search rules;
      kept = (ap (λ (v : View). v.slots) c.split-seat.ensures.giver ∙ i.kept.0, ap (λ (v : View). v.numbers) c.split-seat.ensures.giver ∙ i.kept.1, ap (λ (v : View). v.first) c.split-seat.ensures.giver ∙ i.kept.2);
      names = λ n more few h.
          let e : n - k - 1 ≡ n - length c.push_reserved.new.self.items = omega (arith, adds) in
          subst (λ (m : ℕ). HasNames m c.split-seat.new.seat.view) e
          (gave_one (n - k) c.split-seat.new.seat.view.met c.loop-consumer.keeper.view c.split-seat.new.seat.view (omega arith) (omega arith) (i.names n more few h) c.split-seat.ensures.giver);
      room = search rules;
      long = omega arith;
      consumers = moved_in (λ w. w.consumer) c.loop-consumer.workers.items _ (into_iter_items c.loop-consumer.consumer-iterator) _ _ _ _ c.push_reserved.ensures.items c.in-Some.ensures.steps.0 refl i.consumers;
      seats =
          subst (AllByRecursion (λ w. w.seat.window ≡ c.args.window.now)) (sym c.push_reserved.ensures.items)
          (AllByRecursion-append (λ w. w.seat.window ≡ c.args.window.now) c.loop-consumer.workers.items (_ ∷ []) i.seats (search rules, tt));
    }

pub returns-clause-names : goal.returns-clause-names
returns-clause-names c n more few h =
    let e : length c.loop-consumer.workers.items ≡ length c.args.consumers.items = search rules in
    subst (λ (m : ℕ). HasNames (n - m) c.loop-consumer.keeper.view) e (c.loop-consumer.invariant.names n more few h)
