use Rattle.std.proofs.Common.{take}
use Rattle.sms_centre.specs.Says.{PutsAll}
use Rattle.sms_centre.proofs.said.put_all.Given as goal

abbrev pub invariant-loop-said : goal.invariant-loop-said
invariant-loop-said l = PutsAll (take l.said-index l.saids) l.initial.out.items l.out.items
