use Rattle.std.proofs.Common.{◌≤◌, sym, subst}
use Rattle.std.specs.Vec.{vec_len}
use Rattle.sms_worker.specs.PendingState.{data_in, settled_one}
use Rattle.sms_worker.proofs.Finding.{settled_in}
use Rattle.sms_worker.proofs.Pending.{length-mapped, pending_settled}
use Rattle.sms_worker.proofs.Keeping.{keeps_pending}
use Rattle.sms_worker.proofs.Rising.{order_settled}
use Rattle.sms_worker.proofs.state.worker_state.WorkerState.forget.Goals as goal

pub invariant_of-self : goal.invariant_of-self
invariant_of-self g c =
    let i = c.self.invariant in
    let room = c.settle_part.ensures.room in
    record {
      keeps = rw c.settle_part.ensures.settled (keeps_pending _ _ _ _ _ _ _ _ _ i.keeps (pending_settled g.C.WorkerStart.start.rules g.C.WorkerStart.start.messages c.self.inside.pending.items c.args.place.message i.keeps.pending_kept) (length-mapped settled_one data_in c.self.inside.pending.items c.args.place.message));
      handed = i.handed;
      closing = i.closing;
      credit = i.credit;
      reasons = i.reasons;
      order = rw c.settle_part.ensures.settled (order_settled c.self.inside.tally.ends c.self.inside.next c.self.inside.opened.items c.self.inside.queues.all c.self.inside.pending.items c.args.place.message i.order);
      ends_fit = i.ends_fit;
      pending_fit = subst (λ n. vec_len c.self.inside.messages ≤ n) (sym room.1) i.pending_fit;
      opened_fit = i.opened_fit;
    }

pub returns : goal.returns
returns g c = settled_in _ _ c.args.place.message _ c.settle_part.ensures.settled c.self.view_is
