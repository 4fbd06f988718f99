use Rattle.std.proofs.Common.{rules, refl}
use Rattle.std.specs.Vec.Iter.{into_iter_items}
use Rattle.sms_driver.specs.declared.start_gate.ThreadResult.{ThreadResult}
use Rattle.sms_driver.specs.StartGates.{IsAtOne, IsValueBy, command_of}
use Rattle.sms_driver.proofs.Joins.{one_back, none_joined}
use Rattle.sms_driver.proofs.Returning.{first_holds}
use Rattle.sms_driver.proofs.threads.join_all.Goals as goal

pub agrees-requires : goal.agrees-requires
agrees-requires g c = record {
  latch = (first_holds (λ h. (thread_result : ThreadResult g.row.T.Denot) → g.P.Promise.kept_by h.promise thread_result → IsAtOne thread_result.started c.args.started.now) _ _ _ c.in-Some.ensures.steps.0 c.loop-handle.invariant.latch).0 c.join-thread_result.result c.join-thread_result.ensures;
}

pub loop-handle-preserved : goal.loop-handle-preserved
loop-handle-preserved g c =
    let i = c.loop-handle.invariant in
    let takes = c.in-Some.ensures.steps.0 in
    record {
      value = one_back (λ h r. IsValueBy g.P.Promise.kept_by (command_of c.args.started.now) h.promise r) c.args.handles.items (into_iter_items c.loop-handle.handle-iterator) (into_iter_items c.next.new.self) c.in-Some.handle c.loop-handle.values.items c.push_reserved.new.self.items c.join-thread_result.result.value takes c.push_reserved.ensures.items (record { thread_result = c.join-thread_result.result; keeps = c.join-thread_result.ensures; command_is = c.agrees.ensures.command; is = refl }) i.value;
      latch = (first_holds (λ h. (thread_result : ThreadResult g.row.T.Denot) → g.P.Promise.kept_by h.promise thread_result → IsAtOne thread_result.started c.args.started.now) _ _ _ takes i.latch).1;
      room = search rules;
    }

pub returns : goal.returns
returns g c = record {
  each = none_joined (λ h r. IsValueBy g.P.Promise.kept_by (command_of c.args.started.now) h.promise r) c.args.handles.items (into_iter_items c.loop-handle.handle-iterator) c.loop-handle.values.items (search rules) c.loop-handle.invariant.value;
}
