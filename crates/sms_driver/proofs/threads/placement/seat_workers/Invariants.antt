use Rattle.std.proofs.Common.{◌≡◌, ◌≤◌, ◌+◌, ◌-◌, ◌++◌, length, map}
use Rattle.std.specs.List.{AllByRecursion}
use Rattle.std.specs.Vec.Iter.{into_iter_items}
use Rattle.sms_driver.specs.Seated.{placements_from, placement_at}
use Rattle.sms_driver.proofs.threads.placement.seat_workers.Given as goal

abbrev pub invariant-loop-worker : goal.invariant-loop-worker
invariant-loop-worker g l = record {
  rest : AllByRecursion (λ w. w.seat.window ≡ l.shared.window) (into_iter_items l.worker-iterator);
  own : AllByRecursion (λ p. p.seat.window ≡ p.window.now) l.places.items;
  windows : map (λ p. p.seat.window) l.places.items ++ map (λ w. w.seat.window) (into_iter_items l.worker-iterator) ≡ map (λ p. p.seat.window) l.initial.places.items ++ map (λ w. w.seat.window) l.fn.workers.items;
  rings : map (λ p. p.consumer) l.places.items ++ map (λ w. w.consumer) (into_iter_items l.worker-iterator) ≡ map (λ p. p.consumer) l.initial.places.items ++ map (λ w. w.consumer) l.fn.workers.items;
  from : l.before ≤ length l.places.items;
  placements : map placement_at l.places.items ++ placements_from l.shared (length l.places.items - l.before) (into_iter_items l.worker-iterator) ≡ map placement_at l.initial.places.items ++ placements_from l.shared 0 l.fn.workers.items;
  long : length l.places.items + length (into_iter_items l.worker-iterator) ≡ length l.initial.places.items + length l.fn.workers.items;
}
