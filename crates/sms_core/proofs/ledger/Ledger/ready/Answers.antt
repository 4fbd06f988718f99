use Rattle.std.proofs.Common.{◌≡◌, ap, arith, length, rules}
use Rattle.sms_core.specs.declared.request.Phase.TheVariants.{Ready}
use Rattle.sms_core.specs.Ledger.{Records, one_if_ready}
use Rattle.sms_core.proofs.Sums.{within, get_or-at}
use Rattle.sms_core.proofs.ledger.Ledger.ready.Goals as goal

pub returns-then-eq-clause-left : goal.returns-then-eq-clause-left
returns-then-eq-clause-left c =
    let l = c.self.inside in let r = c.in_ok-place.request in let place = c.in_ok-place.place in
    let at = get_or-at l.requests.list place r r c.in_ok-place.ensures.at.1 in
    let e = within l.attempts (length l.rows.items) l.requests.list place r c.self.invariant.requests_are at.0 at.1 in
    let same = ap (λ (w : Records). w.attempts) c.self.view_is in
    let is : r.state.phase ≡ Ready = search rules in
    let ready : one_if_ready r.state.phase ≡ 1 = ap one_if_ready is in
    omega (arith, e)

pub returns-then-eq-clause-bound : goal.returns-then-eq-clause-bound
returns-then-eq-clause-bound c =
    let l = c.self.inside in let r = c.in_ok-place.request in let place = c.in_ok-place.place in
    let at = get_or-at l.requests.list place r r c.in_ok-place.ensures.at.1 in
    let e = within l.attempts (length l.rows.items) l.requests.list place r c.self.invariant.requests_are at.0 at.1 in
    let is : r.state.phase ≡ Ready = search rules in
    let ready : one_if_ready r.state.phase ≡ 1 = ap one_if_ready is in
    omega (arith, e, c.self.invariant.few)
