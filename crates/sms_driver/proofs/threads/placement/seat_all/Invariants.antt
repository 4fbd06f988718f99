use Rattle.std.proofs.Common.{◌≡◌, ◌≤◌, ◌*◌, ◌++◌, length, map, drop, vec_len, vec_capacity}
use Rattle.std.specs.List.{AllByRecursion, AllZip}
use Rattle.sms_driver.specs.Reads.{reading_in, reading_of}
use Rattle.sms_driver.specs.Rings.{flat}
use Rattle.sms_driver.specs.Seated.{all_reader_placements, all_placements, consumers_of, reader_placement_of, placement_at, IsSeated, windows}
use Rattle.sms_driver.proofs.threads.placement.seat_all.Given as goal

abbrev pub invariant-loop-bind : goal.invariant-loop-bind
invariant-loop-bind g l = record {
  bind_parts : AllZip (IsSeated l.workers) (drop l.bind l.shared_binds) l.bind_parts.items;
  places : AllByRecursion (λ p. p.seat.window ≡ p.window.now) l.places.items;
  reader_tasks : AllByRecursion (λ t. t.seat.window ≡ t.window.now) l.reader_tasks.items;
  windows : map (λ p. p.seat.window) l.places.items ++ windows l.workers (map (λ b. b.window) (drop l.bind l.shared_binds)) ≡ windows l.workers (map (λ b. b.window) l.shared_binds);
  keepers : map (λ t. t.seat.window) l.reader_tasks.items ++ map (λ b. b.window) (drop l.bind l.shared_binds) ≡ map (λ b. b.window) l.shared_binds;
  rings : map (λ p. p.consumer) l.places.items ++ flat (map consumers_of l.bind_parts.items) ≡ flat (map consumers_of l.fn.bind_parts.items);
  readings : map reading_of l.reader_tasks.items ++ map reading_in l.bind_parts.items ≡ map reading_in l.fn.bind_parts.items;
  placements : map placement_at l.places.items ++ all_placements (drop l.bind l.shared_binds) l.bind_parts.items ≡ all_placements l.shared_binds l.fn.bind_parts.items;
  reader_placements : map reader_placement_of l.reader_tasks.items ++ all_reader_placements (drop l.bind l.shared_binds) l.bind_parts.items ≡ all_reader_placements l.shared_binds l.fn.bind_parts.items;
  long : length l.places.items ≡ l.bind * l.workers;
  room : (vec_len l.reader_tasks ≡ l.bind) × (length l.shared_binds ≤ vec_capacity l.reader_tasks);
}
