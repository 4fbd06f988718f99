use Rattle.std.proofs.Common.{arith}
use Rattle.sms_ledger.proofs.Feeds.{first_feed, no_feed_there}
use Rattle.sms_ledger.proofs.lines.feed_at.Goals as goal

pub returns-in-Some : goal.returns-in-Some
returns-in-Some c = record { place = first_feed c.args.text.now c.in-Some.at c.in-Some.ensures.0 c.in-Some.ensures.1; within = omega (arith, c.in-Some.ensures.0.high) }

pub returns-in-None : goal.returns-in-None
returns-in-None c = record { place = no_feed_there c.args.text.now c.in-None.ensures; within = omega arith }
