use Rattle.std.proofs.Common.{◌≡◌, ◌<◌, ◌≤◌, ◌+◌, ◌-◌, ◌++◌, ℕ, length, map, vec_len, vec_capacity}
use Rattle.std.specs.List.{AllByRecursion}
use Rattle.std.specs.Vec.Iter.{into_iter_items}
use Rattle.sms_window.specs.Names.{HasNames}
use Rattle.sms_driver.proofs.binding.seats.split_seats.Given as goal

abbrev pub invariant-loop-consumer : goal.invariant-loop-consumer
invariant-loop-consumer l = record {
  own : l.keeper.window ≡ l.initial.keeper.window;
  kept : (l.keeper.view.slots ≡ l.initial.keeper.view.slots) × (l.keeper.view.numbers ≡ l.initial.keeper.view.numbers) × (l.keeper.view.first ≡ l.initial.keeper.view.first);
  names : (n : ℕ) → length l.fn.consumers.items < n → n ≤ 64 → HasNames n l.initial.keeper.view → HasNames (n - length l.workers.items) l.keeper.view;
  room : vec_len l.workers + length (into_iter_items l.consumer-iterator) ≤ vec_capacity l.workers;
  long : length l.workers.items + length (into_iter_items l.consumer-iterator) ≡ length l.fn.consumers.items;
  consumers : map (λ w. w.consumer) l.workers.items ++ into_iter_items l.consumer-iterator ≡ l.fn.consumers.items;
  seats : AllByRecursion (λ w. w.seat.window ≡ l.window) l.workers.items;
}
