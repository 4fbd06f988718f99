use Rattle.std.proofs.Common.{◌≡◌, ◌∙◌, ◌++◌, ◌+◌, ◌<◌, ◌≤◌, drop, get_or, length, sym, ap, append-nil, rules, arith}
use Rattle.sms_ledger.proofs.Postings.{item_left}
use Rattle.sms_journal.proofs.Takings.{takings_done, takings_more}
use Rattle.sms_journal.proofs.of_ledger.takings.takings_for.Goals as goal

pub loop-name-preserved : goal.loop-name-preserved
loop-name-preserved c =
    let k = c.loop-name.name-index in
    let openings = c.args.openings.now in
    let o = c.in-Some.opening.now in
    let same : c.loop-name.place ≡ k = c.loop-name.invariant.place in
    let low : c.loop-name.place < length openings = search rules in
    let got : o ≡ get_or openings c.loop-name.place o = search rules in
    record {
      place = omega (arith, same);
      takings = takings_more c.args.run.now c.args.names.now openings k (k + 1) c.name-item.result o _ c.loop-name.entries.items c.add_taking.new.entries.items (omega arith)
          (item_left c.args.names.now k c.name-item.result c.loop-name-test.true c.name-item.is) (item_left openings k o (omega (arith, same, low)) (got ∙ ap (λ n. get_or openings n o) same)) c.loop-name.invariant.takings (search rules);
    }

pub returns-in_default : goal.returns-in_default
returns-in_default c =
    let k = c.loop-name.name-index in
    let same : c.loop-name.place ≡ k = c.loop-name.invariant.place in
    let none : length c.args.openings.now ≤ c.loop-name.place = search rules in
    sym (append-nil c.loop-name.entries.items) ∙ ap (λ l. c.loop-name.entries.items ++ l) (sym (takings_done c.args.run.now (drop k c.args.names.now) c.args.openings.now k (omega (arith, same, none)))) ∙ c.loop-name.invariant.takings
