use Rattle.std.proofs.Common.{◌≡◌, ◌≤◌}
use Rattle.sms_worker.specs.Expiry.{AreLooks}
use Rattle.sms_worker.proofs.state.worker_state.WorkerState.expire.Given as goal

abbrev pub invariant-loop-look : goal.invariant-loop-look
invariant-loop-look g l = record {
  replies : l.self.replies ≡ l.initial.self.replies;
  looks : AreLooks l.down g.C.WorkerStart.start.rules.answer_ms l.now.at_ms l._look l.answered.count l.any l.initial.self l.self;
  few : l.answered.count ≤ l._look;
}
