use Rattle.std.proofs.Common.{◌≡◌, ◌<◌, List, sym, ap, ◌∙◌, subst}
use Rattle.atomic_table.specs.Seated.{TableId}
use Rattle.sms_bind.specs.declared.log.rule.View.{View}
use Rattle.sms_bind.specs.Frames.{requests, AreSame}
use Rattle.sms_bind.specs.Logs.{Keeping, given_of, claims_of}
use Rattle.sms_bind.proofs.LogStates.{all_back}
use Rattle.sms_bind.proofs.log.LogKeeper.settle.Goals as goal

pub tell-requires-clause-table : goal.tell-requires-clause-table
tell-requires-clause-table g c = (c.self.invariant.badge_is ∙ sym c.table.ensures.0, subst (λ (z : TableId). 0 < z.words) (sym c.table.ensures.0) c.table.ensures.1)

pub tell-requires-clause-badge : goal.tell-requires-clause-badge
tell-requires-clause-badge g c = (_, c.self.invariant.view)

pub invariant_of-result : goal.invariant_of-result
invariant_of-result g c =
    let all = all_back c.self.inside.seat.views c.self.invariant.most (subst (λ (k : Keeping). k.away ≡ 0) (sym c.self.view_is) c.requires.all) in
    subst (λ (l : List View). AreSame (requests (given_of l)) (claims_of l)) (sym c.tell.ensures.same.1) (c.tell.ensures.settled _ c.self.invariant.view all)

pub returns-clause-given : goal.returns-clause-given
returns-clause-given g c = ap given_of c.tell.ensures.same.1 ∙ ap (λ (k : Keeping). k.given) c.self.view_is

pub returns-clause-requests : goal.returns-clause-requests
returns-clause-requests g c = ap claims_of c.tell.ensures.same.1 ∙ ap (λ (k : Keeping). k.requests) c.self.view_is

pub returns-clause-settled : goal.returns-clause-settled
returns-clause-settled g c =
    let all = all_back c.self.inside.seat.views c.self.invariant.most (subst (λ (k : Keeping). k.away ≡ 0) (sym c.self.view_is) c.requires.all) in
    subst (λ (k : Keeping). AreSame (requests k.given) k.requests) c.self.view_is (c.tell.ensures.settled _ c.self.invariant.view all)
