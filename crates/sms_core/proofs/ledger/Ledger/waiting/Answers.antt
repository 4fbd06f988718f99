use Rattle.std.proofs.Common.{◌≡◌, ◌∙◌, ◌<◌, ℕ, ap, sym, arith, sum_by, slice_get, length, Some}
use Rattle.sms_core.specs.Ledger.{Records, is_open_named}
use Rattle.sms_core.specs.Requests.{place_of}
use Rattle.sms_core.proofs.Sums.{open_found, open_placed, within, get_or-at}
use Rattle.sms_core.proofs.ledger.Ledger.waiting.Goals as goal

pub unreachable-requires : goal.unreachable-requires
unreachable-requires c =
    let rs = c.self.inside.requests.list in
    let some : 0 < sum_by (is_open_named c.args.id) rs = rw (ap (λ (w : Records). sum_by (is_open_named c.args.id) w.requests) c.self.view_is) c.requires in
    open_placed c.args.id rs (c.self.invariant.requests_are.distinct c.args.id) some (c.in-None.ensures.state)

pub returns-clause-found : goal.returns-clause-found
returns-clause-found c =
    let rs = c.self.inside.requests.list in let r = c.in-Some.found.1 in let place = c.in-Some.found.0 in
    let some : 0 < sum_by (is_open_named c.args.id) rs = rw (ap (λ (w : Records). sum_by (is_open_named c.args.id) w.requests) c.self.view_is) c.requires in
    let placed : place_of c.args.id rs ≡ Some place = ap (λ (i : ℕ). place_of i rs) (sym c.in-Some.ensures.named) ∙ c.in-Some.ensures.at.0 in
    record {
      at = (ap (λ (w : Records). place_of r.id w.requests) (sym c.self.view_is) ∙ c.in-Some.ensures.at.0, ap (λ (w : Records). slice_get w.requests place) (sym c.self.view_is) ∙ c.in-Some.ensures.at.1);
      named = c.in-Some.ensures.named;
      in_phase = open_found c.args.id rs place r (c.self.invariant.requests_are.distinct c.args.id) some placed c.in-Some.ensures.at.1;
    }

pub returns-clause-bound : goal.returns-clause-bound
returns-clause-bound c =
    let l = c.self.inside in let r = c.in-Some.found.1 in let place = c.in-Some.found.0 in
    let at = get_or-at l.requests.list place r r c.in-Some.ensures.at.1 in
    let e = within l.attempts (length l.rows.items) l.requests.list place r c.self.invariant.requests_are at.0 at.1 in
    let same = ap (λ (w : Records). w.attempts) c.self.view_is in
    omega (arith, e)
