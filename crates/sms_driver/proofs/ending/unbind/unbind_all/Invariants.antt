use Rattle.std.proofs.Common.{◌≡◌, map}
use Rattle.sms_driver.specs.Unbinds.{AsksBefore}
use Rattle.sms_driver.proofs.ending.unbind.unbind_all.Given as goal

abbrev pub invariant-loop-bind : goal.invariant-loop-bind
invariant-loop-bind g l = record {
  windows : map (λ s. s.seat.window) l.driver_seats.items ≡ map (λ s. s.seat.window) l.initial.driver_seats.items;
  asked : AsksBefore l.bind l.initial.driver_seats.items l.driver_seats.items;
}
