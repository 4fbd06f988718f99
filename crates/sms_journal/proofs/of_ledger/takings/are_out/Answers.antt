use Rattle.std.proofs.Common.{◌≡◌, ◌∙◌, ◌+◌, ◌<◌, get_or, length, ap, rules, arith}
use Rattle.sms_ledger.proofs.Postings.{item_left}
use Rattle.sms_ledger.specs.InMemory.{state_in}
use Rattle.sms_journal.proofs.Takings.{out_more}
use Rattle.sms_journal.proofs.of_ledger.takings.are_out.Goals as goal

pub loop-name-preserved : goal.loop-name-preserved
loop-name-preserved c =
    let k = c.loop-name.name-index in
    let openings = c.args.openings.now in
    let o = c.in-Some.opening.now in
    let same : c.loop-name.place ≡ k = c.loop-name.invariant.place in
    let low : c.loop-name.place < length openings = search rules in
    let got : o ≡ get_or openings c.loop-name.place o = search rules in
    record {
      place = omega (arith, same);
      out = out_more c.args.run.now (state_in c.args.ledger.now) c.args.names.now openings k (k + 1) c.name-item.result o _ (omega arith)
          (item_left c.args.names.now k c.name-item.result c.loop-name-test.true c.name-item.is) (item_left openings k o (omega (arith, same, low)) (got ∙ ap (λ n. get_or openings n o) same)) c.loop-name.invariant.out (search rules);
    }
