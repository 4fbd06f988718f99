use Rattle.sms_worker.proofs.Earliest.{BestOf}
use Rattle.sms_worker.proofs.state.queue.Queues.due.Given as goal

abbrev pub invariant-loop-queue : goal.invariant-loop-queue
invariant-loop-queue l = BestOf l.pending l.self.all l.now_ms l.queue l.best
