use Rattle.std.proofs.Common.{take}
use Rattle.std.specs.List.{AllZip}
use Rattle.sms_journal.specs.Left.{SaysSame, left_in}
use Rattle.sms_journal.proofs.further.left.messages_left.Given as goal

abbrev pub invariant-loop-place : goal.invariant-loop-place
invariant-loop-place g l = AllZip SaysSame (left_in (take l.place l.messages) (take l.place l.ends)) l.left.items
