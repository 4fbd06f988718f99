use Rattle.std.proofs.Common.{◌≡◌, ◌∙◌, ℕ, List, ap, sym, get_or, set, map, length, slice_get, sum_by, arith}
use Rattle.std.proofs.lemmas.List.{get_or_read}
use Rattle.std.proofs.lemmas.List.Sums.{sum_by-set}
use Rattle.sms_core.specs.declared.request.Request.{Request}
use Rattle.sms_core.specs.declared.request.RequestState.{RequestState}
use Rattle.sms_core.specs.declared.row.Row.{Row}
use Rattle.sms_core.specs.Requests.{Listed}
use Rattle.sms_core.specs.State.{changed}
use Rattle.sms_core.specs.Ledger.{Records, became, is_open_named}
use Rattle.sms_core.specs.Rows.{no_row}
use Rattle.sms_core.specs.RowMoves.{row_after}
use Rattle.sms_core.proofs.Sums.{kept_advanced, account_inside, get_or-at, records, topped_kept, row_after-topped, returned_small, reserved_enough, changed-set}
use Rattle.sms_core.proofs.ledger.Ledger.advance.Goals as goal

pub index_mut-requires : goal.index_mut-requires
index_mut-requires c =
    let l = c.self.inside in let r = c.args.request in
    let at = get_or-at l.requests.list c.args.place r r (ap (λ (w : Records). slice_get w.requests c.args.place) c.self.view_is ∙ c.requires.at.1) in
    let inside = account_inside l.attempts (length l.rows.items) l.requests.list c.args.place r c.self.invariant.requests_are at.0 at.1 in
    omega arith

pub move_credits-requires : goal.move_credits-requires
move_credits-requires c =
    let l = c.self.inside in let r = c.args.request in
    let at = get_or-at l.requests.list c.args.place r r (ap (λ (w : Records). slice_get w.requests c.args.place) c.self.view_is ∙ c.requires.at.1) in
    let inside = account_inside l.attempts (length l.rows.items) l.requests.list c.args.place r c.self.invariant.requests_are at.0 at.1 in
    let is = c.self.invariant.rows_are r.state.account inside in
    let row = c.index_mut.result.now in
    let same : row ≡ get_or l.rows.items r.state.account no_row = get_or_read l.rows.items r.state.account row inside c.index_mut.ensures.value no_row in
    let enough = reserved_enough l.requests.list c.args.place r c.requires.live at.0 at.1 in
    let back = returned_small l.attempts (length l.rows.items) r.state.account l.requests.list c.self.invariant.requests_are in
    rw same (record {
      reserved = omega (arith, is.reserved, c.from.ensures);
      fits = omega (arith, is.balance, is.limit, is.reserved, c.from.ensures);
      returned = omega (arith, is.balance, is.limit, is.reserved, is.returned, c.from.ensures);
    })

pub invariant_of-self : goal.invariant_of-self
invariant_of-self c =
    let l = c.self.inside in let r = c.args.request in
    let at = get_or-at l.requests.list c.args.place r r (ap (λ (w : Records). slice_get w.requests c.args.place) c.self.view_is ∙ c.requires.at.1) in
    let inside = account_inside l.attempts (length l.rows.items) l.requests.list c.args.place r c.self.invariant.requests_are at.0 at.1 in
    let row = c.index_mut.result.now in
    let same : row ≡ get_or l.rows.items r.state.account no_row = get_or_read l.rows.items r.state.account row inside c.index_mut.ensures.value no_row in
    let most = ap (λ (w : Records). w.attempts) c.self.view_is in
    let kept = kept_advanced l.attempts l.rows.items l.requests.list c.args.place r c.args.attempts c.args.phase c.self.invariant c.requires.live at.0 at.1 (omega (arith, c.requires.left)) in
    let moves : c.move_credits.new.self ≡ row_after c.args.phase r.state.cost (get_or l.rows.items r.state.account no_row) =
    c.move_credits.ensures ∙ ap (λ (n : ℕ). row_after c.args.phase n row) c.from.ensures ∙ ap (row_after c.args.phase r.state.cost) same in
    let listed : c.set.new.self.list ≡ set l.requests.list c.args.place (became c.args.attempts c.args.phase r) = ap (λ (w : Listed). w.list) c.set.ensures in
    rw (moves, listed) kept

pub returns-clause-requests : goal.returns-clause-requests
returns-clause-requests c = λ f becomes.
    let l = c.self.inside in let r = c.args.request in
    let at = get_or-at l.requests.list c.args.place r r (ap (λ (w : Records). slice_get w.requests c.args.place) c.self.view_is ∙ c.requires.at.1) in
    let inside = account_inside l.attempts (length l.rows.items) l.requests.list c.args.place r c.self.invariant.requests_are at.0 at.1 in
    let row = c.index_mut.result.now in
    let same : row ≡ get_or l.rows.items r.state.account no_row = get_or_read l.rows.items r.state.account row inside c.index_mut.ensures.value no_row in
    let topped = topped_kept l.rows.items r.state.account c.move_credits.new.self
    (ap (λ (x : Row). x.topped) c.move_credits.ensures ∙ row_after-topped c.args.phase c.from.result row ∙ ap (λ (x : Row). x.topped) same) in
    let written = changed-set r.id f l.requests.list c.args.place r (c.self.invariant.requests_are.distinct r.id) at.0 (ap (λ (x : Request). x.id) at.1) in
    let state : f (get_or l.requests.list c.args.place r).state ≡ (became c.args.attempts c.args.phase r).state = ap (λ (x : Request). f x.state) at.1 ∙ becomes in
    let set_is = written ∙ ap (λ (s : RequestState). set l.requests.list c.args.place (record { id = r.id; state = s })) state in
    ap (λ (ts : List ℕ). records l.attempts ts c.set.new.self.list c.set.new.self.links c.set.new.self.room) topped
    ∙ ap (λ (w : Listed). records l.attempts (map (λ (x : Row). x.topped) l.rows.items) w.list w.links w.room) c.set.ensures
    ∙ ap (λ (rs : List Request). records l.attempts (map (λ (x : Row). x.topped) l.rows.items) rs l.requests.links l.requests.room) (sym set_is)
    ∙ ap (λ (w : Records). records w.attempts w.topped (changed r.id f w.requests) w.links w.room) c.self.view_is

pub returns-clause-open : goal.returns-clause-open
returns-clause-open c = λ id.
    let l = c.self.inside in let r = c.args.request in
    let at = get_or-at l.requests.list c.args.place r r (ap (λ (w : Records). slice_get w.requests c.args.place) c.self.view_is ∙ c.requires.at.1) in
    let listed : c.set.new.self.list ≡ set l.requests.list c.args.place (became c.args.attempts c.args.phase r) = ap (λ (w : Listed). w.list) c.set.ensures in
    let s = sum_by-set (is_open_named id) l.requests.list c.args.place (became c.args.attempts c.args.phase r) r at.0 in
    let old = ap (is_open_named id) at.1 in
    let sum = ap (sum_by (is_open_named id)) listed in
    let before = ap (λ (w : Records). sum_by (is_open_named id) w.requests) c.self.view_is in
    omega arith
