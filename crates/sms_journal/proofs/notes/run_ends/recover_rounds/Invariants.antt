use Rattle.sms_journal.specs.Going.{AreEndsAt}
use Rattle.sms_journal.proofs.notes.run_ends.recover_rounds.Given as goal

abbrev pub invariant-loop-place : goal.invariant-loop-place
invariant-loop-place l = AreEndsAt l.rules l.messages l.notes l.place l.ends.items
