use Rattle.std.proofs.Common.{◌≡◌}
use Rattle.sms_worker.specs.Turns.{AreSteps, are_some}
use Rattle.sms_worker.proofs.state.worker_state.WorkerState.start_all.Given as goal

abbrev pub invariant-loop-start : goal.invariant-loop-start
invariant-loop-start g l = record {
  replies : l.self.replies ≡ l.initial.self.replies;
  steps : AreSteps g.C.WorkerStart.start l.now.at_ms l._start l.initial.self l.self;
  some : l.any ≡ are_some l._start;
}
