use Rattle.std.proofs.Common.{◌≡◌, ◌≤◌, ◌+◌, ◌++◌, map, length, vec_len, vec_capacity}
use Rattle.std.specs.List.{AllByRecursion}
use Rattle.std.specs.Vec.Iter.{into_iter_items}
use Rattle.sms_driver.specs.Reads.{listener_of, listener_promised}
use Rattle.sms_driver.proofs.threads.listening.start_readers.Given as goal

abbrev pub invariant-loop-reader_task : goal.invariant-loop-reader_task
invariant-loop-reader_task g l = record {
  listeners : map (λ h. listener_promised h.promise) l.handles.items ++ map listener_of (into_iter_items l.reader_task-iterator) ≡ map listener_of l.fn.reader_tasks.items;
  given : AllByRecursion (λ h. (h.promise.latch.value ≡ l.latch) × (h.promise.turns ≡ l.context.rules.now.turns)) l.handles.items;
  room : vec_len l.handles + length (into_iter_items l.reader_task-iterator) ≤ vec_capacity l.handles;
  few : length l.handles.items + length (into_iter_items l.reader_task-iterator) ≤ length l.fn.reader_tasks.items;
  own : AllByRecursion (λ t. t.seat.window ≡ t.window.now) (into_iter_items l.reader_task-iterator);
}
