use Rattle.std.proofs.Common.{sym, subst}
use Rattle.sms_worker.specs.Tally.{IsLike, TallyState}
use Rattle.sms_worker.proofs.Tallying.{sums_given}
use Rattle.sms_worker.proofs.state.tally.Tally.give.Goals as goal

pub give-requires : goal.give-requires
give-requires g c =
    let like = subst (λ (t : TallyState). IsLike t.ends c.args.place c.args.segment) (sym c.self.view_is) c.requires.like in
    record { exists = (like.there, like.at) }

pub invariant_of-self : goal.invariant_of-self
invariant_of-self g c =
    let like = subst (λ (t : TallyState). IsLike t.ends c.args.place c.args.segment) (sym c.self.view_is) c.requires.like in
    sums_given g.C.WorkerStart.start c.self.inside.shares c.self.inside.ends.items c.give.new.ends.items c.args.place c.args.segment c.self.invariant like c.give.ensures.now
