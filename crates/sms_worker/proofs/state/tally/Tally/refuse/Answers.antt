use Rattle.std.proofs.Common.{◌≡◌, length, Some, sym, subst}
use Rattle.std.specs.Prelude.{slice_get}
use Rattle.sms_worker.specs.Tally.{TallyState}
use Rattle.sms_worker.proofs.Tallying.{sums_refused}
use Rattle.sms_worker.proofs.state.tally.Tally.refuse.Goals as goal

pub invariant_of-self : goal.invariant_of-self
invariant_of-self g c =
    let start = g.C.WorkerStart.start in
    let there = subst (λ (t : TallyState). slice_get start.messages (length t.ends) ≡ Some c.args.message.now) (sym c.self.view_is) c.requires.next in
    sums_refused start c.self.inside.shares c.self.inside.ends.items c.push_reserved.new.self.items c.args.message.now c.args.refusal c.self.invariant there c.push_reserved.ensures.items
