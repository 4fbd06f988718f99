use Rattle.std.proofs.Common.{◌≡◌, ◌≤◌, ◌+◌, ◌++◌, length, map, vec_len, vec_capacity}
use Rattle.std.specs.Vec.Iter.{into_iter_items}
use Rattle.sms_driver.specs.BindEnds.{outcome_of}
use Rattle.sms_driver.specs.Rings.{flat}
use Rattle.sms_driver.proofs.ending.ring_ends.take_rings.Given as goal

abbrev pub invariant-loop-reader : goal.invariant-loop-reader
invariant-loop-reader l = record {
  producers : l.producers.items ++ flat (map (λ d. d.producers.items) (into_iter_items l.reader-iterator)) ≡ flat (map (λ d. d.producers.items) l.fn.readers.items);
  outcomes : map outcome_of l.bare.items ++ map outcome_of (into_iter_items l.reader-iterator) ≡ map outcome_of l.fn.readers.items;
  seats : map (λ d. d.seat.window) l.bare.items ++ map (λ d. d.seat.window) (into_iter_items l.reader-iterator) ≡ map (λ d. d.seat.window) l.fn.readers.items;
  fits : vec_len l.producers + length (flat (map (λ d. d.producers.items) (into_iter_items l.reader-iterator))) ≤ vec_capacity l.producers;
  room : vec_len l.bare + length (into_iter_items l.reader-iterator) ≤ vec_capacity l.bare;
}
