use Rattle.std.proofs.Common.{◌<◌, ◌∙◌, None, length, refl, sym, ap, subst, rules}
use Rattle.std.specs.Prelude.{◌+◌}
use Rattle.sms_worker.specs.declared.state.queue.Queue.{Queue}
use Rattle.sms_worker.proofs.Earliest.{BestOf, first_at, passes_empty, takes_sooner}
use Rattle.sms_worker.proofs.state.queue.Queues.due.Goals.{in-Some, in_default}
use Rattle.sms_worker.proofs.state.queue.Queues.due.Goals as goal

abbrev none : Queue
none = record { first = None; last = None }

pub loop-queue-preserved : goal.loop-queue-preserved
loop-queue-preserved c =
    let qs = c.args.self.now.all in
    let i = c.loop-queue.queue in
    let low : i < length qs = search rules in
    elim c.match-self-queue.branch [
      | in-Some w ↦
          (let first = first_at qs i none low ∙ w.in-Some.is in
          let due = ap (λ l. l.due_ms) (sym w.link_at-due_ms.ensures) in
          subst (BestOf c.args.pending.now qs c.args.now_ms (i + 1)) (sym (w.best-is ∙ w.sooner-best.ensures))
          (takes_sooner c.args.pending.now qs c.args.now_ms i (i + 1) (record { queue = i; due_ms = w.link_at-due_ms.result.due_ms }) w.in-Some.first refl refl first due c.loop-queue.best c.loop-queue.invariant))
      | in_default w ↦ subst (BestOf c.args.pending.now qs c.args.now_ms (i + 1)) (sym w.best-is) (passes_empty c.args.pending.now qs c.args.now_ms i (i + 1) c.loop-queue.best refl (first_at qs i none low ∙ w.in_default.is) c.loop-queue.invariant)
    ]
