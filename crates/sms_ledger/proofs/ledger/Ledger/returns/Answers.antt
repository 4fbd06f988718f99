use Rattle.std.proofs.Common.{◌≡◌, ◌∙◌, ◌++◌, ◌+◌, ◌<◌, ◌≤◌, drop, get_or, length, sym, ap, append-nil, rules, arith}
use Rattle.sms_ledger.specs.Kept.{state_of}
use Rattle.sms_ledger.proofs.Postings.{item_left, returns_more, rows_done}
use Rattle.sms_ledger.proofs.ledger.Ledger.returns.Goals as goal

pub loop-account-preserved : goal.loop-account-preserved
loop-account-preserved c =
    let k = c.loop-account.account-index in
    let rows = c.args.rows.now in
    let x = c.in-Some.row.now in
    let same : c.loop-account.place ≡ k = c.loop-account.invariant.place in
    let low : c.loop-account.place < length rows = search rules in
    let got : x ≡ get_or rows c.loop-account.place x = search rules in
    record {
      place = omega (arith, same);
      returns = returns_more c.args.run.now (state_of c.args.self.now.books) c.args.accounts.now rows k (k + 1) c.account-item.result x _ c.loop-account.entries.items c.add_return.new.entries.items (omega arith)
          (item_left c.args.accounts.now k c.account-item.result c.loop-account-test.true c.account-item.is) (item_left rows k x (omega (arith, same, low)) (got ∙ ap (λ n. get_or rows n x) same)) c.loop-account.invariant.returns (search rules);
    }

pub returns-in_default : goal.returns-in_default
returns-in_default c =
    let k = c.loop-account.account-index in
    let same : c.loop-account.place ≡ k = c.loop-account.invariant.place in
    let none : length c.args.rows.now ≤ c.loop-account.place = search rules in
    sym (append-nil c.loop-account.entries.items) ∙ ap (λ l. c.loop-account.entries.items ++ l) (sym (rows_done c.args.run.now (state_of c.args.self.now.books) (drop k c.args.accounts.now) c.args.rows.now k (omega (arith, same, none)))) ∙ c.loop-account.invariant.returns
