use Rattle.sms_worker.proofs.Nearest.{IsDueInOf}
use Rattle.sms_worker.proofs.state.queue.Queues.due_in.Given as goal

abbrev pub invariant-loop-queue : goal.invariant-loop-queue
invariant-loop-queue l = IsDueInOf l.pending l.self.all l.now_ms l.queue l.least
