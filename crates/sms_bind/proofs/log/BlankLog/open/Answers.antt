use Rattle.std.proofs.Common.{◌<◌, ◌∙◌, subst}
use Rattle.atomic_table.specs.Seated.{TableId}
use Rattle.sms_bind.proofs.log.BlankLog.open.Goals as goal

pub invariant_of-log : goal.invariant_of-log
invariant_of-log g c = (c.self.view_is ∙ c.requires.name, subst (λ (z : TableId). 0 < z.words) (c.self.view_is ∙ c.requires.name) c.self.invariant.word)
