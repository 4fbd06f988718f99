use Rattle.std.proofs.Common.{◌≡◌, ◌+◌, ◌++◌, length, take}
use Rattle.std.specs.VecDeque.{deque_len, deque_capacity}
use Rattle.sms_centre.proofs.ring.pop_all.Given as goal

abbrev pub invariant-loop-at : goal.invariant-loop-at
invariant-loop-at l = record {
  joined : take l.at l.to ++ l.queue.items ≡ l.initial.queue.items;
  len : deque_len l.queue + l.at ≡ deque_len l.initial.queue;
  capacity : deque_capacity l.queue ≡ deque_capacity l.initial.queue;
  long : length l.to ≡ length l.initial.to;
}
