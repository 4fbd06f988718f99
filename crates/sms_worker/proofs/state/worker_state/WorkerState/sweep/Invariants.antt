use Rattle.std.proofs.Common.{◌≡◌, length}
use Rattle.sms_worker.specs.Sweeps.{SettledTo}
use Rattle.sms_worker.proofs.state.worker_state.WorkerState.sweep.Given as goal

abbrev pub invariant-loop-message : goal.invariant-loop-message
invariant-loop-message g l = record {
  replies : l.self.replies ≡ l.initial.self.replies;
  long : length l.self.ends ≡ length l.initial.self.ends;
  closed : l.self.closed ≡ l.initial.self.closed;
  settled : SettledTo g.C.WorkerStart.start.rules.policy.attempts l.message 0 l.self.ends;
}
