use Rattle.std.proofs.Common.{◌+◌, ◌<◌, sym, ap, ◌∙◌, subst}
use Rattle.sms_bind.specs.LogRule.{all_parts}
use Rattle.sms_bind.specs.Logs.{Keeping}
use Rattle.sms_bind.proofs.LogStates.{may_deal, keeper_deals}
use Rattle.sms_bind.proofs.log.LogKeeper.wire.Goals as goal

pub invariant_of-self-2 : goal.invariant_of-self-2
invariant_of-self-2 g c =
    (keeper_deals _ _ _ _ _ c.self.invariant c.begin-seat.ensures.table.0 (may_deal c.self.inside.seat.views c.self.invariant.most (subst (λ (k : Keeping). k.away + 1 < all_parts) (sym c.self.view_is) c.requires.few)) c.begin-seat.ensures.dealer).stands

pub returns-clause-away : goal.returns-clause-away
returns-clause-away g c =
    (keeper_deals _ _ _ _ _ c.self.invariant c.begin-seat.ensures.table.0 (may_deal c.self.inside.seat.views c.self.invariant.most (subst (λ (k : Keeping). k.away + 1 < all_parts) (sym c.self.view_is) c.requires.few)) c.begin-seat.ensures.dealer).away
    ∙ ap (λ (k : Keeping). k.away + 1) c.self.view_is

pub returns-clause-same : goal.returns-clause-same
returns-clause-same g c =
    let d = keeper_deals _ _ _ _ _ c.self.invariant c.begin-seat.ensures.table.0 (may_deal c.self.inside.seat.views c.self.invariant.most (subst (λ (k : Keeping). k.away + 1 < all_parts) (sym c.self.view_is) c.requires.few)) c.begin-seat.ensures.dealer in
    (d.given ∙ ap (λ (k : Keeping). k.given) c.self.view_is, d.requests ∙ ap (λ (k : Keeping). k.requests) c.self.view_is)
