use Rattle.std.proofs.Common.{◌-◌, ◌<◌, ◌++◌, refl, sym, ap, ◌∙◌, subst, append-nil}
use Rattle.sms_bind.specs.Logs.{BeginsBehind, Keeping, Logged}
use Rattle.sms_bind.proofs.LogStates.{keeper_takes}
use Rattle.sms_bind.proofs.log.LogKeeper.take_wire.Goals as goal

pub invariant_of-self : goal.invariant_of-self
invariant_of-self g c =
    (keeper_takes _ _ _ _ _ _ _ c.self.invariant c.take_in.ensures.table (subst (λ (k : Keeping). 0 < k.away) (sym c.self.view_is) c.requires.away) refl c.logged.invariant.view c.take_in.ensures.joined).stands

pub returns-clause-away : goal.returns-clause-away
returns-clause-away g c =
    (keeper_takes _ _ _ _ _ _ _ c.self.invariant c.take_in.ensures.table (subst (λ (k : Keeping). 0 < k.away) (sym c.self.view_is) c.requires.away) refl c.logged.invariant.view c.take_in.ensures.joined).away
    ∙ ap (λ (k : Keeping). k.away - 1) c.self.view_is

pub returns-clause-given : goal.returns-clause-given
returns-clause-given g c =
    (keeper_takes _ _ _ _ _ _ _ c.self.invariant c.take_in.ensures.table (subst (λ (k : Keeping). 0 < k.away) (sym c.self.view_is) c.requires.away) refl c.logged.invariant.view c.take_in.ensures.joined).given_more
    ∙ (λ i. (c.self.view_is i).given ++ (c.logged.view_is i).log)

pub returns-clause-behind : goal.returns-clause-behind
returns-clause-behind g c = subst (λ (l : Logged _). BeginsBehind g.N.LogName.settings l.first) c.logged.view_is c.logged.invariant.behind

pub returns-clause-requests : goal.returns-clause-requests
returns-clause-requests g c =
    (keeper_takes _ _ _ _ _ _ _ c.self.invariant c.take_in.ensures.table (subst (λ (k : Keeping). 0 < k.away) (sym c.self.view_is) c.requires.away) refl c.logged.invariant.view c.take_in.ensures.joined).requests_more
    ∙ append-nil _ ∙ ap (λ (k : Keeping). k.requests) c.self.view_is
