use Rattle.std.proofs.Common.{◌-◌, ◌<◌, ◌++◌, refl, sym, ap, ◌∙◌, subst, append-nil}
use Rattle.atomic_table.specs.Seated.{TableId}
use Rattle.sms_bind.specs.Logs.{Keeping}
use Rattle.sms_bind.proofs.LogStates.{keeper_takes}
use Rattle.sms_bind.proofs.log.LogKeeper.take.Goals as goal

pub take_in-requires-clause-table : goal.take_in-requires-clause-table
take_in-requires-clause-table g c = (c.self.invariant.badge_is ∙ sym c.table.ensures.0, c.requests.invariant.badge_is ∙ sym c.table.ensures.0, subst (λ (z : TableId). 0 < z.words) (sym c.table.ensures.0) c.table.ensures.1)

pub take_in-requires-clause-badge : goal.take_in-requires-clause-badge
take_in-requires-clause-badge g c = (_, c.self.invariant.view, c.self.invariant.some)

pub take_in-requires-clause-other : goal.take_in-requires-clause-other
take_in-requires-clause-other g c = (_, c.requests.invariant.view)

pub invariant_of-self : goal.invariant_of-self
invariant_of-self g c =
    (keeper_takes _ _ _ _ _ _ _ c.self.invariant c.take_in.ensures.table (subst (λ (k : Keeping). 0 < k.away) (sym c.self.view_is) c.requires.away) refl c.requests.invariant.view c.take_in.ensures.joined).stands

pub returns-clause-away : goal.returns-clause-away
returns-clause-away g c =
    (keeper_takes _ _ _ _ _ _ _ c.self.invariant c.take_in.ensures.table (subst (λ (k : Keeping). 0 < k.away) (sym c.self.view_is) c.requires.away) refl c.requests.invariant.view c.take_in.ensures.joined).away
    ∙ ap (λ (k : Keeping). k.away - 1) c.self.view_is

pub returns-clause-given : goal.returns-clause-given
returns-clause-given g c =
    (keeper_takes _ _ _ _ _ _ _ c.self.invariant c.take_in.ensures.table (subst (λ (k : Keeping). 0 < k.away) (sym c.self.view_is) c.requires.away) refl c.requests.invariant.view c.take_in.ensures.joined).given_more
    ∙ append-nil _ ∙ ap (λ (k : Keeping). k.given) c.self.view_is

pub returns-clause-requests : goal.returns-clause-requests
returns-clause-requests g c =
    (keeper_takes _ _ _ _ _ _ _ c.self.invariant c.take_in.ensures.table (subst (λ (k : Keeping). 0 < k.away) (sym c.self.view_is) c.requires.away) refl c.requests.invariant.view c.take_in.ensures.joined).requests_more
    ∙ (λ i. (c.self.view_is i).requests ++ c.requests.view_is i)
