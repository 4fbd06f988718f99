use Rattle.std.proofs.Common.{take}
use Rattle.sms_journal.specs.Lawful.{IsRound}
use Rattle.sms_journal.specs.Seen.{Sees}
use Rattle.sms_journal.proofs.notes.checking.check_round.Given as goal

abbrev pub invariant-loop-place : goal.invariant-loop-place
invariant-loop-place l = record {
  sees : Sees l.rules l.size l.messages (take l.place l.notes) l.seen;
  round : IsRound l.rules l.size l.messages l.given.indexes.items (take l.place l.notes);
}
