use Rattle.std.proofs.Common.{◌≡◌, ◌≤◌, ◌+◌, ◌++◌, length, map, vec_len, vec_capacity}
use Rattle.std.specs.List.{AllByRecursion}
use Rattle.std.specs.Vec.Iter.{into_iter_items}
use Rattle.sms_driver.specs.Threads.{IsPrepared}
use Rattle.sms_driver.specs.Seated.{placement_at, placement_of, CountFrom}
use Rattle.sms_driver.proofs.threads.task.tasks.Given as goal

abbrev pub invariant-loop-share : goal.invariant-loop-share
invariant-loop-share g l = record {
  places : length l.places.items ≡ length (into_iter_items l.share-iterator);
  batches : length l.batches.items ≡ length (into_iter_items l.share-iterator);
  each : length l.requests.items ≡ length (into_iter_items l.share-iterator);
  requests : map (λ t. t.assignment.worker.requests) l.tasks.items ++ l.requests.items ≡ l.fn.requests.items;
  shares : map (λ t. t.assignment.worker.shares) l.tasks.items ++ into_iter_items l.share-iterator ≡ l.fn.shares.items;
  messages : map (λ t. t.assignment.messages) l.tasks.items ++ map (λ l. l.items) l.batches.items ≡ map (λ l. l.items) l.fn.batches.items;
  windows : map (λ t. t.assignment.worker.seat.window) l.tasks.items ++ map (λ p. p.seat.window) l.places.items ≡ map (λ p. p.seat.window) l.fn.places.items;
  rings : map (λ t. t.assignment.worker.consumer) l.tasks.items ++ map (λ p. p.consumer) l.places.items ≡ map (λ p. p.consumer) l.fn.places.items;
  placements : map placement_of l.tasks.items ++ map placement_at l.places.items ≡ map placement_at l.fn.places.items;
  indexes : CountFrom 0 (map (λ t. t.assignment.worker.index) l.tasks.items);
  rest : AllByRecursion (λ p. p.seat.window ≡ p.window.now) l.places.items;
  own : AllByRecursion (IsPrepared l.fn.rules) l.tasks.items;
  room : vec_len l.tasks + length (into_iter_items l.share-iterator) ≤ vec_capacity l.tasks;
}
