use Rattle.std.proofs.Common.{arith, rules}
use Rattle.sms_journal.proofs.Lefts.{one_more_left}
use Rattle.sms_journal.proofs.rest.left.all_left.Goals as goal

pub loop-init : goal.loop-init
loop-init c = record { length = search rules; each = λ i low. absurd (omega (arith, low)) }

pub loop-preserved : goal.loop-preserved
loop-preserved c = record {
  length = search rules;
  each = one_more_left c.loop.left.items c.loop.counter c.push.new.list.items c.loop.invariant.length c.loop.invariant.each (search rules);
}

pub returns : goal.returns
returns c = λ i low. c.loop.invariant.each i (omega (arith, low))
