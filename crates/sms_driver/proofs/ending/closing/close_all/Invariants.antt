use Rattle.std.proofs.Common.{◌≡◌, ◌≤◌, ◌+◌, ◌*◌, ◌++◌, List, length, map, vec_len, vec_capacity}
use Rattle.std.specs.List.{AllByRecursion}
use Rattle.std.specs.Vec.Iter.{into_iter_items}
use Rattle.sms_driver.specs.BindEnds.{outcome_of, IsBindEnd}
use Rattle.sms_driver.specs.Handed.{AreWritten}
use Rattle.sms_driver.specs.Rings.{flat}
use Rattle.sms_driver.specs.Unbinds.{handed_in, HasHanded, HasTried}
use Rattle.sms_window.specs.declared.outcome.Closed.{Closed}
use Rattle.sms_driver.specs.Closings.{HaveClosings}
use Rattle.sms_driver.specs.declared.bind_end.BindClosing.{BindClosing}
use Rattle.sms_driver.specs.Joined.{AreClosed}
use Rattle.sms_driver.specs.Numbered.{AllDrewOnce}
use Rattle.sms_driver.specs.Seated.{windows}
use Rattle.sms_driver.proofs.ending.closing.close_all.Given as goal

abbrev pub invariant-loop-shared : goal.invariant-loop-shared
invariant-loop-shared g l = record {
  readers : map (λ d. d.seat.window) l.readers.items ≡ map (λ b. b.window) (into_iter_items l.shared-iterator);
  driver_seats : map (λ s. s.seat.window) l.driver_seats.items ≡ map (λ b. b.window) (into_iter_items l.shared-iterator);
  tried : AllByRecursion HasTried l.driver_seats.items;
  seats : map (λ s. s.window) l.seats.items ≡ windows l.workers (map (λ b. b.window) (into_iter_items l.shared-iterator));
  each : length l.ends.items + length (into_iter_items l.shared-iterator) ≡ length l.fn.remains.shared_binds.items;
  outcomes : map (λ b. b.reader) l.ends.items ++ map outcome_of l.readers.items ≡ map outcome_of l.fn.remains.readers.items;
  closed : (rest : List Closed) → AreClosed l.workers (map (λ d. d.seat.view) l.readers.items) (map (λ s. s.seat.view) l.driver_seats.items) (map (λ s. s.view) l.seats.items) rest
      → AreClosed l.fn.remains.workers (map (λ d. d.seat.view) l.fn.remains.readers.items) (map (λ s. s.seat.view) l.fn.remains.driver_seats.items) (map (λ s. s.view) l.fn.seats.items) (map (λ b. b.window) l.ends.items ++ rest);
  once : AllDrewOnce (length (into_iter_items l.shared-iterator)) l.workers (map (λ s. s.view) l.seats.items) → AllDrewOnce (length l.fn.remains.shared_binds.items) l.fn.remains.workers (map (λ s. s.view) l.fn.seats.items);
  closings : (rest : List BindClosing) → HaveClosings l.workers l.causes.items rest → HaveClosings l.fn.remains.workers l.fn.causes.items (map (λ b. b.closing) l.ends.items ++ rest);
  away : l.log.away + 2 * length l.fn.remains.shared_binds.items ≡ l.initial.log.away + 2 * length (into_iter_items l.shared-iterator);
  handed : AllByRecursion HasHanded l.driver_seats.items;
  requests : l.log.requests ≡ l.initial.log.requests ++ flat (map (λ b. handed_in b.unbind_result) l.ends.items);
  ended : AllByRecursion (IsBindEnd l.workers) l.ends.items;
  written : AreWritten g.N.LogName.settings (length l.ends.items) l.initial.log.given l.log.given;
  room : vec_len l.ends + length (into_iter_items l.shared-iterator) ≤ vec_capacity l.ends;
}
