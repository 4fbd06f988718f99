use Rattle.std.proofs.Common.{rules}
use Rattle.sms_book.proofs.Openings.{small_more, not_small}
use Rattle.sms_book.proofs.opening.are_small.Goals as goal

pub returns-then-opening-gt-MOST_TOPPED : goal.returns-then-opening-gt-MOST_TOPPED
returns-then-opening-gt-MOST_TOPPED c =
    (search rules, λ all. absurd (not_small c.args.openings.now c.loop-opening.opening-index c.opening-item.result (search rules) (search rules) (search rules) all))

pub loop-opening-preserved : goal.loop-opening-preserved
loop-opening-preserved c = small_more c.args.openings.now c.loop-opening.opening-index c.opening-item.result (search rules) (search rules) (search rules) c.loop-opening.invariant
