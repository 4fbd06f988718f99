use Rattle.std.proofs.Common.{◌≡◌, ◌++◌, take}
use Rattle.sms_centre.specs.Says.{due}
use Rattle.sms_centre.proofs.kept.say_due.Given as goal

abbrev pub invariant-loop-x : goal.invariant-loop-x
invariant-loop-x l = l.out.items ≡ l.initial.out.items ++ due l.k (take l.x-index l.kept)
