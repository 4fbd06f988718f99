use Rattle.std.proofs.Common.{take}
use Rattle.sms_journal.specs.Seen.{AreOrdered}
use Rattle.sms_journal.proofs.notes.given.order_of.Given as goal

abbrev pub invariant-loop-place : goal.invariant-loop-place
invariant-loop-place l = AreOrdered (take l.place l.indexes) l.order
