use Rattle.std.proofs.Common.{◌≡◌, ℕ, ◌<◌, length, Some}
use Rattle.sms_worker.specs.Types.{SegmentEnd}
use Rattle.sms_message.specs.Ends.{segment_at}
use Rattle.sms_worker.specs.Sweeps.{SettledTo}
use Rattle.sms_worker.proofs.state.worker_state.WorkerState.sweep_message.Given as goal

abbrev pub invariant-loop-part : goal.invariant-loop-part
invariant-loop-part g l = record {
  replies : l.self.replies ≡ l.initial.self.replies;
  long : length l.self.ends ≡ length l.initial.self.ends;
  closed : l.self.closed ≡ l.initial.self.closed;
  settled : SettledTo g.C.WorkerStart.start.rules.policy.attempts l.message l.part l.self.ends;
  inside : (q : ℕ) (s : SegmentEnd) → segment_at l.self.ends l.message q ≡ Some s → q < l.count;
}
