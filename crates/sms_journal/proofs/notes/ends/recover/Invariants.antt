use Rattle.std.proofs.Common.{take}
use Rattle.std.specs.List.{AllZip}
use Rattle.sms_journal.specs.Recovered.{IsRecoveredEnd}
use Rattle.sms_journal.proofs.notes.ends.recover.Given as goal

abbrev pub invariant-loop-message : goal.invariant-loop-message
invariant-loop-message l = AllZip (IsRecoveredEnd l.rules l.notes) (take l.message-index l.messages) l.ends.items
