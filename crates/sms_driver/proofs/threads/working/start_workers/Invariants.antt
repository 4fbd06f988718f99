use Rattle.std.proofs.Common.{◌≡◌, ◌≤◌, ◌+◌, ◌++◌, map, length, vec_len, vec_capacity}
use Rattle.std.specs.List.{AllByRecursion}
use Rattle.std.specs.Vec.Iter.{into_iter_items}
use Rattle.sms_driver.specs.Threads.{IsPrepared}
use Rattle.sms_driver.proofs.threads.working.start_workers.Given as goal

abbrev pub invariant-loop-task : goal.invariant-loop-task
invariant-loop-task g l = record {
  assignments : map (λ h. h.promise.assignment.value) l.handles.items ++ map (λ t. t.assignment) (into_iter_items l.task-iterator) ≡ map (λ t. t.assignment) l.fn.tasks.items;
  given : AllByRecursion (λ h. (h.promise.rules.value ≡ l.context.rules.now) × (h.promise.latch.value ≡ l.latch)) l.handles.items;
  room : vec_len l.handles + length (into_iter_items l.task-iterator) ≤ vec_capacity l.handles;
  few : length l.handles.items + length (into_iter_items l.task-iterator) ≤ length l.fn.tasks.items;
  own : AllByRecursion (IsPrepared l.context.rules.now) (into_iter_items l.task-iterator);
}
