use Rattle.std.proofs.Common.{◌≡◌, ◌∙◌, ◌+◌, ◌<◌, ◌≤◌, ℕ, List, ap, sym, arith, map, get_or, set, length}
use Rattle.std.proofs.lemmas.List.{map-set, get_or_read, length-map}
use Rattle.sms_core.specs.declared.row.Row.{Row}
use Rattle.sms_core.specs.Ledger.{Records}
use Rattle.sms_core.specs.Limits.{most_topped}
use Rattle.sms_core.specs.Rows.{no_row}
use Rattle.sms_core.proofs.Sums.{topped_at, kept_topped, records}
use Rattle.sms_core.proofs.ledger.Ledger.top_up.Goals as goal

pub returns : goal.returns
returns c =
    let l = c.self.inside in let account = c.args.account in let row = c.index_mut-row.result.now in
    let inside : account < length l.rows.items = omega (arith, length-map l.rows.items (λ (x : Row). x.topped), ap (λ (w : Records). length w.topped) c.self.view_is, c.requires.known) in
    let is : row ≡ get_or l.rows.items account no_row = get_or_read l.rows.items account row inside c.index_mut-row.ensures.value no_row in
    let next : Row = record row { topped = row.topped + c.args.amount; free = row.free + c.args.amount } in
    let topped = map-set (λ (x : Row). x.topped) l.rows.items account next in
    let had = topped_at l.rows.items account in
    let adds : row.topped + c.args.amount ≡ get_or (map (λ (x : Row). x.topped) l.rows.items) account 0 + c.args.amount = ap (λ (n : ℕ). n + c.args.amount) (ap (λ (x : Row). x.topped) is ∙ sym had) in
    ap (λ (ts : List ℕ). records l.attempts ts l.requests.list l.requests.links l.requests.room) (topped ∙ ap (set (map (λ (x : Row). x.topped) l.rows.items) account) adds)
    ∙ ap (λ (w : Records). records w.attempts (set w.topped account (get_or w.topped account 0 + c.args.amount)) w.requests w.links w.room) c.self.view_is

pub index_mut-row-requires : goal.index_mut-row-requires
index_mut-row-requires c =
    let l = c.self.inside in let account = c.args.account in
    let inside : account < length l.rows.items = omega (arith, length-map l.rows.items (λ (x : Row). x.topped), ap (λ (w : Records). length w.topped) c.self.view_is, c.requires.known) in
    omega arith

pub overflow_add-row : goal.overflow_add-row
overflow_add-row c =
    let l = c.self.inside in let account = c.args.account in let row = c.index_mut-row.result.now in
    let inside : account < length l.rows.items = omega (arith, length-map l.rows.items (λ (x : Row). x.topped), ap (λ (w : Records). length w.topped) c.self.view_is, c.requires.known) in
    let is : row ≡ get_or l.rows.items account no_row = get_or_read l.rows.items account row inside c.index_mut-row.ensures.value no_row in
    let limit : row.topped + c.args.amount ≤ most_topped =
    omega (arith, ap (λ (x : Row). x.topped) is, topped_at l.rows.items account, ap (λ (w : Records). get_or w.topped account 0) c.self.view_is, c.requires.limit) in
    omega arith

pub overflow_add-row-2 : goal.overflow_add-row-2
overflow_add-row-2 c =
    let l = c.self.inside in let account = c.args.account in let row = c.index_mut-row.result.now in
    let inside : account < length l.rows.items = omega (arith, length-map l.rows.items (λ (x : Row). x.topped), ap (λ (w : Records). length w.topped) c.self.view_is, c.requires.known) in
    let is : row ≡ get_or l.rows.items account no_row = get_or_read l.rows.items account row inside c.index_mut-row.ensures.value no_row in
    let limit : row.topped + c.args.amount ≤ most_topped =
    omega (arith, ap (λ (x : Row). x.topped) is, topped_at l.rows.items account, ap (λ (w : Records). get_or w.topped account 0) c.self.view_is, c.requires.limit) in
    let balance = (c.self.invariant.rows_are account inside).balance in omega (arith, ap (λ (x : Row). x.topped) is, ap (λ (x : Row). x.free) is)

pub invariant_of-self : goal.invariant_of-self
invariant_of-self c =
    let l = c.self.inside in let account = c.args.account in let row = c.index_mut-row.result.now in
    let inside : account < length l.rows.items = omega (arith, length-map l.rows.items (λ (x : Row). x.topped), ap (λ (w : Records). length w.topped) c.self.view_is, c.requires.known) in
    let is : row ≡ get_or l.rows.items account no_row = get_or_read l.rows.items account row inside c.index_mut-row.ensures.value no_row in
    let limit : row.topped + c.args.amount ≤ most_topped =
    omega (arith, ap (λ (x : Row). x.topped) is, topped_at l.rows.items account, ap (λ (w : Records). get_or w.topped account 0) c.self.view_is, c.requires.limit) in
    kept_topped l.attempts l.rows.items l.requests.list account c.args.amount row c.self.invariant inside is limit
