use Rattle.std.proofs.Common.{◌≡◌}
use Rattle.sms_window.proofs.tests.threads.draw_some.Given as goal

abbrev pub invariant-loop : goal.invariant-loop
invariant-loop l = record { own : l.seat.window ≡ l.initial.seat.window; slots : l.seat.view.slots ≡ l.initial.seat.view.slots; numbers : l.seat.view.numbers ≡ l.initial.seat.view.numbers }
