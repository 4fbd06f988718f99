use Rattle.std.proofs.Common.{◌≡◌, ◌+◌, ◌*◌, ◌≤◌, [], map, length, vec_len, vec_capacity}
use Rattle.std.specs.List.{AllByRecursion, AllZip}
use Rattle.std.specs.Vec.Iter.{into_iter_items}
use Rattle.sms_driver.specs.BindEnds.{IsSetUp}
use Rattle.sms_driver.specs.Handed.{HasDealt}
use Rattle.sms_driver.specs.Reads.{AreOpened}
use Rattle.sms_driver.specs.Rings.{IsNewPair}
use Rattle.sms_driver.specs.Seated.{IsSeated}
use Rattle.sms_driver.proofs.binding.bind_each.Given as goal

abbrev pub invariant-loop-theirs : goal.invariant-loop-theirs
invariant-loop-theirs g l = record {
  rings : AllByRecursion (λ r. length r.consumers.items ≡ l.workers) (into_iter_items l.theirs-iterator);
  pairs : AllByRecursion (λ r. AllZip IsNewPair r.producers.items r.consumers.items) (into_iter_items l.theirs-iterator);
  long : length l.shared_binds.items + length (into_iter_items l.theirs-iterator) ≡ length l.fn.rings.items;
  place : l.place ≡ length l.shared_binds.items;
  shared_binds : vec_len l.shared_binds + length (into_iter_items l.theirs-iterator) ≤ vec_capacity l.shared_binds;
  bind_parts : vec_len l.bind_parts + length (into_iter_items l.theirs-iterator) ≤ vec_capacity l.bind_parts;
  driver_seats : vec_len l.driver_seats + length (into_iter_items l.theirs-iterator) ≤ vec_capacity l.driver_seats;
  windows : map (λ s. s.seat.window) l.driver_seats.items ≡ map (λ b. b.window) l.shared_binds.items;
  log : HasDealt (2 * l.place) l.initial.log l.log;
  none : AllByRecursion (λ s. s.requests ≡ []) l.driver_seats.items;
  opened : AreOpened g.D.Reader.Read.remaining l.bind_settings.settings.mode (g.D.Dial.told l.dial) 0 l.bind_parts.items;
  set : AllByRecursion (IsSetUp l.bind_settings) l.bind_parts.items;
  seated : AllZip (IsSeated l.workers) l.shared_binds.items l.bind_parts.items;
}
