use Rattle.std.proofs.Common.{take}
use Rattle.sms_journal.specs.Resuming.{AreWhole}
use Rattle.sms_journal.proofs.recovery.resuming.whole_of.Given as goal

abbrev pub invariant-loop-place : goal.invariant-loop-place
invariant-loop-place l = AreWhole (take l.place l.text) l.whole
