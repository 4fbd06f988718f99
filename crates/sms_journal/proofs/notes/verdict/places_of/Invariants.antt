use Rattle.std.proofs.Common.{take}
use Rattle.sms_journal.specs.Seen.{ArePlaces}
use Rattle.sms_journal.proofs.notes.verdict.places_of.Given as goal

abbrev pub invariant-loop-place : goal.invariant-loop-place
invariant-loop-place l = ArePlaces (take l.place l.messages) l.places
