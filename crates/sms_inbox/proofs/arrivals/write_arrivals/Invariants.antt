use Rattle.std.proofs.Common.{◌+◌, ◌≤◌, length}
use Rattle.std.specs.Prelude.{string_bytes}
use Rattle.sms_pdu.specs.Streams.{Went}
use Rattle.sms_inbox.proofs.Walks.{Wrote}
use Rattle.sms_inbox.proofs.arrivals.write_arrivals.Given as goal

abbrev pub invariant-loop-length : goal.invariant-loop-length
invariant-loop-length l = record {
  went : Went (Wrote l.time l.bind (string_bytes l.initial.text) (string_bytes l.text) l.count) l.stream l.left;
  few : l.count + length l.left ≤ length l.stream;
}

abbrev pub decreases-loop-length : goal.decreases-loop-length
decreases-loop-length l = length l.left
