use Rattle.sms_worker.specs.Queues.{IsFirstDue, NoneIsDue}
use Rattle.sms_worker.specs.Rising.{HasNext, IsNext, IsThere}
use Rattle.sms_worker.proofs.Finding.{found_fresh, found_none, found_retry}
use Rattle.sms_worker.proofs.Rising.{first_turn}
use Rattle.sms_worker.proofs.Turning.{both}
use Rattle.sms_worker.proofs.state.worker_state.WorkerState.next_place.Goals as goal

pub returns : goal.returns
returns g c =
    let run = c.args.self.now in
    let at = c.args.now_ms in
    let f = c.first_of.ensures in
    record {
      turn = first_turn _ _ c.due_retry.result c.next_part.result c.first_of.result c.due_retry.ensures.sent c.next_part.ensures.next f.retry f.next f.none;
      retry = found_retry c.due_retry.result c.next_part.result c.first_of.result f.retry f.next f.none (λ place k. IsFirstDue run.pending run.queues at place k) c.due_retry.ensures.due;
      fresh = found_fresh c.due_retry.result c.next_part.result c.first_of.result f.retry f.next f.none (NoneIsDue run.pending run.queues at) (λ p. IsNext run.ends run.next p × IsThere run.ends p) c.due_retry.ensures.none (both (IsNext run.ends run.next) (IsThere run.ends) c.next_part.result c.next_part.ensures.next c.next_part.ensures.exists);
      none = found_none c.due_retry.result c.next_part.result c.first_of.result f.retry f.next f.none (NoneIsDue run.pending run.queues at) (HasNext run.ends run.next → ⊥) c.due_retry.ensures.none c.next_part.ensures.none;
    }
