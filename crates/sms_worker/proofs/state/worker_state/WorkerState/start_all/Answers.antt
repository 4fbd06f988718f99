use Rattle.std.proofs.Common.{refl, sym, subst, ◌∙◌}
use Rattle.sms_worker.specs.Sweeps.{SettledTo}
use Rattle.sms_worker.proofs.Turning.{one_more, some_then}
use Rattle.sms_worker.proofs.state.worker_state.WorkerState.start_all.Goals as goal

pub loop-start-init : goal.loop-start-init
loop-start-init g c = record { replies = refl; steps = refl; some = refl }

pub loop-start-preserved : goal.loop-start-preserved
loop-start-preserved g c = record {
  replies = c.start_one.ensures.replies ∙ c.loop-start.invariant.replies;
  steps = one_more g.C.WorkerStart.start c.of-now.result.at_ms _ _ _ _ _ c.loop-start.invariant.steps c.start_one.ensures.step c.in-One.is;
  some = some_then c.loop-start._start;
}

pub returns-then-down : goal.returns-then-down
returns-then-down g c = record { replies = c.sweep.ensures.replies; starts = λ up. absurd (cc); swept = λ down. subst (λ n. SettledTo g.C.WorkerStart.start.rules.policy.attempts n 0 c.sweep.new.self.ends) (sym c.sweep.ensures.length) c.sweep.ensures.settled; closed = λ down. c.sweep.ensures.closed }
