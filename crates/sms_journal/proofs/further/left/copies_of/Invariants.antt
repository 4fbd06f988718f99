use Rattle.std.proofs.Common.{take}
use Rattle.std.specs.List.{AllZip}
use Rattle.sms_journal.specs.Left.{SaysSame}
use Rattle.sms_journal.proofs.further.left.copies_of.Given as goal

abbrev pub invariant-loop-message : goal.invariant-loop-message
invariant-loop-message l = AllZip SaysSame (take l.message-index l.messages) l.copies.items
