use Rattle.std.proofs.Common.{◌≤◌, sym, ap, ◌∙◌, subst, arith}
use Rattle.std.proofs.Math.Nat.{le-min, le-add_left}
use Rattle.sms_centre.specs.Says.{next_submit}
use Rattle.sms_centre.proofs.centre.Centre.next_submit.Goals as goal

pub returns-clause-count : goal.returns-clause-count
returns-clause-count c = c.saturating_add.ensures ∙ ap (λ p. next_submit p) c.self.view_is

pub returns-clause-least : goal.returns-clause-least
returns-clause-least c = subst (λ k. 1 ≤ k) (sym c.saturating_add.ensures) (le-min (le-add_left 1 c.self.inside.submits) (omega arith))
