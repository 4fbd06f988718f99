use Rattle.std.proofs.Common.{◌≡◌, ◌≤◌, [], length, vec_capacity}
use Rattle.std.specs.List.{AllByRecursion}
use Rattle.sms_driver.specs.Handed.{HasDealt}
use Rattle.sms_driver.proofs.run.all_requests.Given as goal

abbrev pub invariant-loop-thread : goal.invariant-loop-thread
invariant-loop-thread g l = record {
  within : l._thread ≤ l.count;
  log : HasDealt l._thread l.initial.log l.log;
  long : length l.requests.items ≡ l._thread;
  none : AllByRecursion (λ r. r ≡ []) l.requests.items;
  room : l.count ≤ vec_capacity l.requests;
}
