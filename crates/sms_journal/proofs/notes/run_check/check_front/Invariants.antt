use Rattle.std.proofs.Common.{◌≤◌}
use Rattle.sms_journal.specs.Going.{AreOfOneRound, IsCurrent, between}
use Rattle.sms_journal.proofs.notes.run_check.check_front.Given as goal

abbrev pub invariant-loop-place : goal.invariant-loop-place
invariant-loop-place l = record {
  low : l.going.from ≤ l.place;
  current : IsCurrent l.rules l.fn.size l.messages l.notes l.going;
  one : AreOfOneRound (between l.going.from l.place l.notes);
}
