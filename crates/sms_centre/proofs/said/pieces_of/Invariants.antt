use Rattle.std.specs.List.{AllZip}
use Rattle.std.proofs.Common.{take}
use Rattle.sms_centre.specs.Says.{IsSaid}
use Rattle.sms_centre.proofs.said.pieces_of.Given as goal

abbrev pub invariant-loop-said : goal.invariant-loop-said
invariant-loop-said l = AllZip IsSaid (take l.said-index l.saids) l.pieces.items
