use Rattle.std.proofs.Common.{◌≡◌, ◌∙◌, ◌<◌, ◌≤◌, ◌+◌, ◌-◌, ◌^◌, ap, get_or, map, length, arith}
use Rattle.std.proofs.lemmas.List.{get_or_read, length-map}
use Rattle.sms_core.specs.declared.row.Row.{Row}
use Rattle.sms_core.specs.Ledger.{Records}
use Rattle.sms_core.specs.Rows.{no_row, row_of}
use Rattle.sms_core.specs.State.{entry_of, find_request}
use Rattle.sms_core.proofs.Sums.{kept_reserved, kept_free, topped_at, topped_kept}
use Rattle.sms_core.proofs.ledger.Ledger.reserve.Goals as goal

pub invariant_of-self-2 : goal.invariant_of-self-2
invariant_of-self-2 c =
    let l = c.self.inside in let account = c.args.account in let row = c.index_mut-row.result.now in
    let inside : account < length l.rows.items = omega (arith, length-map l.rows.items (λ (x : Row). x.topped), ap (λ (w : Records). length w.topped) c.self.view_is, c.requires.known) in
    let same : row ≡ get_or l.rows.items account no_row = get_or_read l.rows.items account row inside c.index_mut-row.ensures.value no_row in
    let is = c.self.invariant.rows_are account inside in
    let free = ap (λ (w : Records). (row_of (get_or w.topped account 0) account (map entry_of w.requests)).free) c.self.view_is in
    let kept = kept_free (get_or l.rows.items account no_row) account (get_or (map (λ (x : Row). x.topped) l.rows.items) account 0) (map entry_of l.requests.list) is (topped_at l.rows.items account) in
    let credit : c.args.cost ≤ (get_or l.rows.items account no_row).free = omega (arith, c.requires.credit) in
    let all = kept_reserved l.attempts l.rows.items l.requests.list c.args.gap.id account c.args.cost c.self.invariant (let low : c.args.gap.id < 2 ^ 32 = omega arith in low) inside
    (ap (λ (w : Records). find_request c.args.gap.id w.requests) c.self.view_is ∙ c.requires.new.new) c.requires.small credit in
    rw (c.in_ok-push.ensures.ok, c.from.ensures, c.from-2.ensures, same) all

pub returns-clause-topped : goal.returns-clause-topped
returns-clause-topped c =
    let l = c.self.inside in let account = c.args.account in let row = c.index_mut-row.result.now in
    let inside : account < length l.rows.items = omega (arith, length-map l.rows.items (λ (x : Row). x.topped), ap (λ (w : Records). length w.topped) c.self.view_is, c.requires.known) in
    let same : row ≡ get_or l.rows.items account no_row = get_or_read l.rows.items account row inside c.index_mut-row.ensures.value no_row in
    topped_kept l.rows.items account (record row { free = row.free - c.from.result; reserved = row.reserved + c.from-2.result }) (ap (λ (x : Row). x.topped) same)
    ∙ ap (λ (w : Records). w.topped) c.self.view_is
