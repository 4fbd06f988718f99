use Rattle.std.proofs.Common.{◌≡◌, ◌+◌, length}
use Rattle.rtrb.specs.Ring.{received, SameConsumer}
use Rattle.sms_worker.specs.Replies.{AreApplied}
use Rattle.sms_worker.specs.Turns.{are_some}
use Rattle.sms_worker.proofs.state.worker_state.WorkerState.take_replies.Given as goal

abbrev pub invariant-loop-pop : goal.invariant-loop-pop
invariant-loop-pop g l = record {
  replies : l.self.replies ≡ received l.consumer;
  ring : SameConsumer l.initial.consumer l.consumer;
  each : AreApplied g.C.WorkerStart.start.rules l.pop l.initial.self l.self;
  some : l.any ≡ are_some l.pop;
  many : length l.self.replies ≡ length l.initial.self.replies + l.pop;
  closed : l.self.closed ≡ l.initial.self.closed;
}
