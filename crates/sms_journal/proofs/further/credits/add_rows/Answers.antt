use Rattle.std.proofs.Common.{◌∙◌, sym, arith}
use Rattle.sms_journal.proofs.Puts.{all_added}
use Rattle.sms_journal.proofs.further.credits.add_rows.Goals as goal

pub returns : goal.returns
returns c =
    sym (all_added c.loop-place.rows.items c.args.later.now c.loop-place.place (omega (arith, c.min-place-end.ensures, c.loop-place-test.false, c.loop-place.invariant.long))) ∙ c.loop-place.invariant.over
