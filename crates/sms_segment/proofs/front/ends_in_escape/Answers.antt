use Rattle.sms_segment.proofs.EscapeLemmas.{escape_step, escape_stop, escape_start}
use Rattle.std.proofs.Common.{arith, sym, ◌∙◌}
use Rattle.sms_segment.proofs.front.ends_in_escape.Goals as goal

pub loop-start-preserved : goal.loop-start-preserved
loop-start-preserved c = (omega arith, escape_step c.args.codes.now c.loop-start.start c.loop-start.open c.loop-start-test.true c.loop-start.invariant.0 (c.if-codes-start.true ∙ c.from.ensures) c.loop-start.invariant.1)

pub returns-else-codes-start : goal.returns-else-codes-start
returns-else-codes-start c = escape_stop c.args.codes.now c.loop-start.start c.loop-start.open c.loop-start-test.true c.loop-start.invariant.0 (λ same. c.if-codes-start.false (same ∙ sym c.from.ensures)) c.loop-start.invariant.1

pub returns-after-loop-start : goal.returns-after-loop-start
returns-after-loop-start c = escape_start c.args.codes.now c.loop-start.start c.loop-start.open c.loop-start-test.false c.loop-start.invariant.1
