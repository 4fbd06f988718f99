use Rattle.sms_worker.proofs.Tallying.{sums_none}
use Rattle.sms_worker.proofs.state.tally.Tally.new.Goals as goal

pub invariant_of-result : goal.invariant_of-result
invariant_of-result g c = sums_none g.C.WorkerStart.start c.args.shares c.args.ends.items c.requires.share c.requires.empty
