use Rattle.std.proofs.Common.{◌≡◌, ◌-◌, length}
use Rattle.sms_worker.proofs.state.worker_state.WorkerState.refuse_rest.Given as goal

abbrev pub invariant-loop : goal.invariant-loop
invariant-loop g l = record { replies : l.self.replies ≡ l.initial.self.replies; closed : l.self.closed ≡ l.initial.self.closed }

abbrev pub decreases-loop : goal.decreases-loop
decreases-loop g l = length g.C.WorkerStart.start.messages - length l.self.ends
