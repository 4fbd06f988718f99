use Rattle.std.proofs.Common.{◌≡◌, ◌+◌, ◌++◌, take}
use Rattle.std.specs.VecDeque.{deque_len, deque_capacity}
use Rattle.sms_centre.proofs.ring.push_all.Given as goal

abbrev pub invariant-loop-octet : goal.invariant-loop-octet
invariant-loop-octet l = record {
  items : l.queue.items ≡ l.initial.queue.items ++ take l.octet-index l.octets;
  len : deque_len l.queue ≡ deque_len l.initial.queue + l.octet-index;
  capacity : deque_capacity l.queue ≡ deque_capacity l.initial.queue;
}
