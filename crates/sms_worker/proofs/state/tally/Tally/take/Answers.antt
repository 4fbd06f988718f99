use Rattle.sms_worker.proofs.Tallying.{sums_perhaps_taken}
use Rattle.sms_worker.proofs.state.tally.Tally.take.Goals as goal

pub invariant_of-self : goal.invariant_of-self
invariant_of-self g c = sums_perhaps_taken g.C.WorkerStart.start c.self.inside.shares c.self.inside.ends.items c.take.new.ends.items c.args.place.message c.args.place.part c.take.result c.self.invariant c.take.ensures.out c.take.ensures.none
