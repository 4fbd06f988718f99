use Rattle.std.proofs.Common.{◌≡◌, ℕ, ◌+◌, length, Some}
use Rattle.std.specs.Prelude.{slice_get}
use Rattle.sms_message.specs.declared.ends.SegmentEnd.{SegmentEnd}
use Rattle.sms_journal.specs.Recovered.{IsRecoveredSegment}
use Rattle.sms_journal.proofs.notes.ends.segment_ends.Given as goal

abbrev pub invariant-loop-place : goal.invariant-loop-place
invariant-loop-place l = record {
  count : length l.parts.items ≡ l.place;
  each : (p : ℕ) (s : SegmentEnd (Unit {0})) → slice_get l.parts.items p ≡ Some s → IsRecoveredSegment l.evidence.rules.now l.evidence.notes.now l.evidence.message.now (p + 1) s;
}
