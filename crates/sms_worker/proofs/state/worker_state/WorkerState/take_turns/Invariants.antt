use Rattle.std.proofs.Common.{◌≡◌}
use Rattle.rtrb.specs.Ring.{received, SameConsumer}
use Rattle.sms_worker.specs.Turn.{AreTurns}
use Rattle.sms_worker.proofs.state.worker_state.WorkerState.take_turns.Given as goal

abbrev pub invariant-loop-turn : goal.invariant-loop-turn
invariant-loop-turn g l = record { replies : l.self.replies ≡ received l.consumer; ring : SameConsumer l.initial.consumer l.consumer; taken : l.taken.count ≡ l._turn; turns : AreTurns g.C.WorkerStart.start l._turn l.initial.self l.self }
