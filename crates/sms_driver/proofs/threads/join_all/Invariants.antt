use Rattle.std.proofs.Common.{◌≤◌, ◌+◌, ◌++◌, List, length, vec_len, vec_capacity}
use Rattle.std.specs.List.{AllZip}
use Rattle.std.specs.Vec.Iter.{into_iter_items}
use Rattle.sms_driver.specs.StartGates.{AreOfOneLatch, IsValueBy, command_of}
use Rattle.sms_driver.proofs.threads.join_all.Given as goal

abbrev pub invariant-loop-handle : goal.invariant-loop-handle
invariant-loop-handle g l = record {
  value : (rest : List g.row.T.Denot) → AllZip (λ h r. IsValueBy g.P.Promise.kept_by (command_of l.started) h.promise r) (into_iter_items l.handle-iterator) rest
      → AllZip (λ h r. IsValueBy g.P.Promise.kept_by (command_of l.started) h.promise r) l.fn.handles.items (l.values.items ++ rest);
  latch : AreOfOneLatch g.P.Promise.kept_by l.started (into_iter_items l.handle-iterator);
  room : vec_len l.values + length (into_iter_items l.handle-iterator) ≤ vec_capacity l.values;
}
