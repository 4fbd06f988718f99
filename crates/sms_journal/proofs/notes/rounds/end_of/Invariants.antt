use Rattle.std.proofs.Common.{take}
use Rattle.sms_journal.specs.Going.{HaveNoEnd}
use Rattle.sms_journal.proofs.notes.rounds.end_of.Given as goal

abbrev pub invariant-loop-place : goal.invariant-loop-place
invariant-loop-place l = HaveNoEnd (take l.place l.notes)
