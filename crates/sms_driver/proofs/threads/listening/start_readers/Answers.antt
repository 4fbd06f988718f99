use Rattle.std.proofs.Common.{◌≡◌, ◌∙◌, map, rules}
use Rattle.std.proofs.lemmas.List.{length-map}
use Rattle.std.specs.Vec.Iter.{into_iter_items}
use Rattle.sms_driver.proofs.Moves.{all_moved, moved}
use Rattle.sms_driver.proofs.Returning.{first_holds, more_hold}
use Rattle.sms_driver.specs.Reads.{listener_of, listener_promised}
use Rattle.sms_driver.proofs.threads.listening.start_readers.Goals as goal

pub loop-reader_task-preserved : goal.loop-reader_task-preserved
loop-reader_task-preserved g c =
    let i = c.loop-reader_task.invariant in
    let takes = c.in-Some.ensures.steps.0 in
    record {
      listeners = moved (λ h. listener_promised h.promise) listener_of c.loop-reader_task.handles.items _ (into_iter_items c.loop-reader_task.reader_task-iterator) _ _ _ _ c.push_reserved.ensures.items takes c.in_ok-handle.ensures.listener i.listeners;
      given = more_hold (λ h. (h.promise.latch.value ≡ c.args.latch.now) × (h.promise.turns ≡ c.args.context.now.rules.now.turns)) c.loop-reader_task.handles.items _ _ c.push_reserved.ensures.items i.given c.in_ok-handle.ensures.given;
      room = search rules;
      few = search rules;
      own = (first_holds (λ t. t.seat.window ≡ t.window.now) _ _ _ takes i.own).1;
    }

pub returns-clause-all : goal.returns-clause-all
returns-clause-all g c =
    let left = into_iter_items c.loop-reader_task.reader_task-iterator in
    (search rules, all_moved _ (map listener_of left) _ (length-map left listener_of ∙ search rules) c.loop-reader_task.invariant.listeners)
