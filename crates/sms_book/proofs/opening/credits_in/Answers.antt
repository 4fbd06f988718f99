use Rattle.std.proofs.Common.{arith}
use Rattle.sms_book.specs.declared.opening.Opening.{Opening}
use Rattle.sms_book.proofs.Pushes.{pushed, all_pushed}
use Rattle.sms_book.proofs.opening.credits_in.Goals as goal

pub loop-opening-preserved : goal.loop-opening-preserved
loop-opening-preserved c = (
  pushed (λ (o : Opening). o.credits) c.args.openings.now c.loop-opening.opening-index c.opening-item.result _ _ c.loop-opening-test.true c.opening-item.is c.push_reserved.ensures.items c.loop-opening.invariant.0,
  let room = c.loop-opening.invariant.1 in let same = c.push_reserved.ensures.capacity in omega arith,
)

pub returns : goal.returns
returns c = all_pushed (λ (o : Opening). o.credits) c.args.openings.now c.loop-opening.opening-index _ c.loop-opening-test.false c.loop-opening.invariant.0
