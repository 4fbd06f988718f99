use Rattle.std.proofs.Common.{◌≤◌, length, None}
use Rattle.sms_pdu.specs.Streams.{Went}
use Rattle.sms_centre.specs.Stops.{Answered}
use Rattle.sms_centre.proofs.centre.Centre.answer_stream.Given as goal

abbrev pub invariant-loop-length : goal.invariant-loop-length
invariant-loop-length l = record {
  went : Went (Answered l.initial.self l.self None l.initial.out.items l.out.items) l.stream l.left;
  fits : length l.left ≤ length l.stream;
}

abbrev pub decreases-loop-length : goal.decreases-loop-length
decreases-loop-length l = length l.left
