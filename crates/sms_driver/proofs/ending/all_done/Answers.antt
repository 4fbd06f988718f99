use Rattle.std.proofs.Common.{Ok, sym, rules}
use Rattle.std.specs.Prelude.{IsOk}
use Rattle.std.specs.Vec.Iter.{into_iter_items}
use Rattle.sms_driver.proofs.Moves.{moved_in}
use Rattle.sms_driver.proofs.Returning.{first_holds}
use Rattle.sms_driver.proofs.ending.all_done.Goals as goal

pub loop-worker_result-preserved : goal.loop-worker_result-preserved
loop-worker_result-preserved g c = record {
  all = moved_in (λ d. Ok d) c.loop-worker_result.done.items _ (into_iter_items c.loop-worker_result.worker_result-iterator) _ _ _ _ c.push_reserved.ensures.items c.in-Some.ensures.steps.0 (sym c.in-Ok.is) c.loop-worker_result.invariant.all;
  rest = (first_holds (λ r. IsOk r) _ _ _ c.in-Some.ensures.steps.0 c.loop-worker_result.invariant.rest).1;
  room = search rules;
}
