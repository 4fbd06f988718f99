use Rattle.std.proofs.Common.{◌≤◌}
use Rattle.sms_journal.specs.Going.{AreOfOneRound, between}
use Rattle.sms_journal.proofs.notes.run_ends.round_end.Given as goal

abbrev pub invariant-loop-place : goal.invariant-loop-place
invariant-loop-place l = record {
  low : l.from ≤ l.place;
  free : AreOfOneRound (between l.from l.place l.notes);
}
