use Rattle.std.proofs.Common.{arith, refl, rules}
use Rattle.std.specs.Vec.Iter.{into_iter_items}
use Rattle.sms_driver.specs.BindEnds.{outcome_of}
use Rattle.sms_driver.proofs.Moves.{moved, lists_left, lists_moved}
use Rattle.sms_driver.proofs.ending.ring_ends.take_rings.Goals as goal

pub loop-reader-preserved : goal.loop-reader-preserved
loop-reader-preserved c =
    let i = c.loop-reader.invariant in
    let takes = c.in-Some.ensures.steps.0 in
    record {
      producers = lists_moved (λ d. d.producers.items) c.loop-reader.producers.items _ (into_iter_items c.loop-reader.reader-iterator) _ _ _ c.in-Ok.ensures.items takes i.producers;
      outcomes = moved outcome_of outcome_of c.loop-reader.bare.items _ (into_iter_items c.loop-reader.reader-iterator) _ _ _ _ c.push_reserved.ensures.items takes refl i.outcomes;
      seats = moved (λ d. d.seat.window) (λ d. d.seat.window) c.loop-reader.bare.items _ (into_iter_items c.loop-reader.reader-iterator) _ _ _ _ c.push_reserved.ensures.items takes refl i.seats;
      fits = let less = lists_left (λ d. d.producers.items) _ _ _ takes in let long = c.in-Ok.ensures.len in let grows = c.in-Ok.ensures.capacity in let fits = i.fits in omega arith;
      room = search rules;
    }
