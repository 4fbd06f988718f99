use Rattle.std.proofs.Common.{◌<◌, length, ap, sym, subst, arith, ◌∙◌}
use Rattle.sms_message.specs.Ends.{segment_at}
use Rattle.sms_worker.specs.Tally.{TallyState}
use Rattle.sms_worker.proofs.Changes.{credit_held}
use Rattle.sms_worker.proofs.Tallying.{sums_settled}
use Rattle.sms_worker.proofs.state.tally.Tally.settle.Goals as goal

pub move_credits-requires : goal.move_credits-requires
move_credits-requires g c a acc =
    let start = g.C.WorkerStart.start in
    let (s, at, waits, cost, some) = c.requires.waits in
    let (m, there, account) = c.requires.message in
    let at' = ap (λ (t : TallyState). segment_at t.ends c.args.place.message c.args.place.part) c.self.view_is ∙ at in
    let most = credit_held start.share.amounts c.self.inside.shares.amounts start.messages c.self.inside.ends.items c.args.place.message c.args.place.part a m s c.self.invariant there at' waits (account ∙ acc) in
    (omega arith, omega arith)

pub give-requires : goal.give-requires
give-requires g c =
    let at = ap (λ (t : TallyState). segment_at t.ends c.args.place.message c.args.place.part) c.self.view_is ∙ c.requires.waits.1 in
    record { exists = (c.requires.waits.0, at) }

pub invariant_of-self : goal.invariant_of-self
invariant_of-self g c =
    let start = g.C.WorkerStart.start in
    let (s, at, waits, cost, some) = c.requires.waits in
    let (m, there, account) = c.requires.message in
    let at' = ap (λ (t : TallyState). segment_at t.ends c.args.place.message c.args.place.part) c.self.view_is ∙ at in
    sums_settled start c.self.inside.shares c.move_credits.new.shares c.self.inside.ends.items c.give.new.ends.items c.args.place.message c.args.place.part m s c.args.segment c.args.account c.self.invariant there account
    (λ a acc. subst (λ (t : TallyState). a < length t.share.amounts) (sym c.self.view_is) (c.requires.known a acc)) at' waits cost c.move_credits.ensures c.give.ensures.now
