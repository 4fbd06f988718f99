use Rattle.std.proofs.Common.{◌≡◌, map, take}
use Rattle.sms_journal.specs.Sums.{segment_without_evidence}
use Rattle.sms_journal.proofs.further.evidence.segments_of.Given as goal

abbrev pub invariant-loop-segment : goal.invariant-loop-segment
invariant-loop-segment g l = l.bare.items ≡ take l.segment-index (map segment_without_evidence l.segments)
