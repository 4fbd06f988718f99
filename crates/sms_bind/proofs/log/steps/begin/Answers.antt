use Rattle.std.proofs.Common.{◌∙◌, [], ◌∷◌, sym}
use Rattle.sms_bind.specs.LogRule.{wire_seat}
use Rattle.sms_bind.proofs.LogMoves.{wire_begins}
use Rattle.sms_bind.proofs.log.steps.begin.Goals as goal

pub split_off-requires-clause-allowed : goal.split_off-requires-clause-allowed
split_off-requires-clause-allowed g c = let (v, is, more) = c.requires.parts in (v, is, wire_begins _ v g.F.Begun.first more)

pub returns-clause-begun : goal.returns-clause-begun
returns-clause-begun g c = let (v, is, more) = c.requires.parts in c.split_off.ensures.right v is ∙ (λ i. wire_seat (sym c.requires.picked i) [] ∷ [])
