use Rattle.std.proofs.Common.{◌+◌, ◌<◌, List, [], ◌∷◌, sym, ap, ◌∙◌, subst}
use Rattle.atomic_table.specs.Seated.{TableId}
use Rattle.sms_bind.specs.declared.log.rule.View.{View}
use Rattle.sms_bind.specs.LogRule.{all_parts}
use Rattle.sms_bind.specs.Logs.{Keeping, claims_of}
use Rattle.sms_bind.proofs.LogStates.{may_deal, keeper_deals}
use Rattle.sms_bind.proofs.log.LogKeeper.thread.Goals as goal

pub deal-seat-requires-clause-table : goal.deal-seat-requires-clause-table
deal-seat-requires-clause-table g c = (c.self.invariant.badge_is ∙ sym c.table.ensures.0, subst (λ (z : TableId). 0 < z.words) (sym c.table.ensures.0) c.table.ensures.1)

pub deal-seat-requires-clause-parts : goal.deal-seat-requires-clause-parts
deal-seat-requires-clause-parts g c = (_, c.self.invariant.view, may_deal c.self.inside.seat.views c.self.invariant.most (subst (λ (k : Keeping). k.away + 1 < all_parts) (sym c.self.view_is) c.requires.few))

pub invariant_of-self : goal.invariant_of-self
invariant_of-self g c =
    (keeper_deals _ _ _ _ _ c.self.invariant c.deal-seat.ensures.table.0 (may_deal c.self.inside.seat.views c.self.invariant.most (subst (λ (k : Keeping). k.away + 1 < all_parts) (sym c.self.view_is) c.requires.few)) c.deal-seat.ensures.dealer).stands

pub invariant_of-result : goal.invariant_of-result
invariant_of-result g c = record { badge_is = c.deal-seat.ensures.table.1 ∙ c.self.invariant.badge_is; view = c.deal-seat.ensures.dealt ∙ ap (λ (l : List View). Rattle.sms_bind.specs.LogRule.seat 1 [] (claims_of l) ∷ []) (sym c.deal-seat.ensures.dealt) }

pub returns-clause-away : goal.returns-clause-away
returns-clause-away g c =
    (keeper_deals _ _ _ _ _ c.self.invariant c.deal-seat.ensures.table.0 (may_deal c.self.inside.seat.views c.self.invariant.most (subst (λ (k : Keeping). k.away + 1 < all_parts) (sym c.self.view_is) c.requires.few)) c.deal-seat.ensures.dealer).away
    ∙ ap (λ (k : Keeping). k.away + 1) c.self.view_is

pub returns-clause-same : goal.returns-clause-same
returns-clause-same g c =
    let d = keeper_deals _ _ _ _ _ c.self.invariant c.deal-seat.ensures.table.0 (may_deal c.self.inside.seat.views c.self.invariant.most (subst (λ (k : Keeping). k.away + 1 < all_parts) (sym c.self.view_is) c.requires.few)) c.deal-seat.ensures.dealer in
    (d.given ∙ ap (λ (k : Keeping). k.given) c.self.view_is, d.requests ∙ ap (λ (k : Keeping). k.requests) c.self.view_is)

pub returns-clause-none : goal.returns-clause-none
returns-clause-none g c = ap claims_of c.deal-seat.ensures.dealt
