use Rattle.std.proofs.Common.{◌≡◌, ◌≤◌, length, map, take, vec_len, vec_capacity}
use Rattle.sms_worker.specs.PendingState.{pending_part}
use Rattle.sms_worker.proofs.state.pending.PendingParts.of.Given as goal

abbrev pub invariant-loop-part : goal.invariant-loop-part
invariant-loop-part l = record {
  made : l.kept.items ≡ map pending_part (take l.part-index l.parts);
  count : vec_len l.kept ≡ l.part-index;
  room : length l.parts ≤ vec_capacity l.kept;
}
