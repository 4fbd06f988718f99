use Rattle.std.proofs.Common.{◌∙◌, [], ◌∷◌, sym, subst}
use Rattle.sms_bind.specs.Frames.{IsUnclaimed}
use Rattle.sms_bind.specs.LogRule.{noted}
use Rattle.sms_bind.proofs.LogMoves.{notes}
use Rattle.sms_bind.proofs.log.steps.note.Goals as goal

pub split_off-spent-requires-clause-allowed : goal.split_off-spent-requires-clause-allowed
split_off-spent-requires-clause-allowed g c = let (v, is, some_part) = c.requires.wire in (v, is, notes _ v g.F.Given.frame some_part (subst IsUnclaimed c.requires.picked c.requires.unclaimed))

pub returns-clause-given : goal.returns-clause-given
returns-clause-given g c v is = c.split_off-spent.ensures.left v is ∙ (λ i. noted (sym c.requires.picked i) v ∷ [])
