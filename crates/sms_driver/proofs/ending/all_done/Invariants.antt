use Rattle.std.proofs.Common.{◌≡◌, ◌≤◌, ◌+◌, ◌++◌, map, length, vec_len, vec_capacity, Ok}
use Rattle.std.specs.Prelude.{IsOk}
use Rattle.std.specs.List.{AllByRecursion}
use Rattle.std.specs.Vec.Iter.{into_iter_items}
use Rattle.sms_driver.proofs.ending.all_done.Given as goal

abbrev pub invariant-loop-worker_result : goal.invariant-loop-worker_result
invariant-loop-worker_result g l = record {
  all : map (λ d. Ok d) l.done.items ++ into_iter_items l.worker_result-iterator ≡ l.fn.worker_results.items;
  rest : AllByRecursion (λ r. IsOk r) (into_iter_items l.worker_result-iterator);
  room : vec_len l.done + length (into_iter_items l.worker_result-iterator) ≤ vec_capacity l.done;
}
