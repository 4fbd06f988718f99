use Rattle.std.proofs.Common.{◌≡◌, ◌<◌, ◌+◌, ◌-◌, ◌∙◌, None, length, refl, sym, ap, subst, rules}
use Rattle.std.specs.Prelude.{min}
use Rattle.sms_worker.specs.declared.state.queue.Queue.{Queue}
use Rattle.sms_worker.proofs.Earliest.{first_at}
use Rattle.sms_worker.proofs.Nearest.{IsDueInOf, is_due_in, passes_empty, takes_least}
use Rattle.sms_worker.proofs.state.queue.Queues.due_in.Goals.{in-Some, in_default}
use Rattle.sms_worker.proofs.state.queue.Queues.due_in.Goals as goal

abbrev none : Queue
none = record { first = None; last = None }

pub loop-queue-preserved : goal.loop-queue-preserved
loop-queue-preserved c =
    let pending = c.args.pending.now in
    let qs = c.args.self.now.all in
    let now = c.args.now_ms in
    let i = c.loop-queue.queue in
    let low : i < length qs = search rules in
    elim c.match-self-queue.branch [
      | in-Some w ↦
          (let first = first_at qs i none low ∙ w.in-Some.is in
          let due = ap (λ l. l.due_ms) (sym w.link_at-due_ms.ensures) in
          let is : c.match-self-queue.least ≡ min c.loop-queue.least (w.link_at-due_ms.result.due_ms - now) = search rules in
          subst (IsDueInOf pending qs now (i + 1)) (sym is) (takes_least pending qs now i (i + 1) c.loop-queue.least _ w.in-Some.first refl first due c.loop-queue.invariant))
      | in_default w ↦ subst (IsDueInOf pending qs now (i + 1)) (sym w.least-is) (passes_empty pending qs now i (i + 1) c.loop-queue.least refl (first_at qs i none low ∙ w.in_default.is) c.loop-queue.invariant)
    ]

pub returns : goal.returns
returns c = is_due_in c.args.pending.now c.args.self.now.all c.args.now_ms c.loop-queue.queue c.loop-queue.least (search rules) c.loop-queue.invariant
