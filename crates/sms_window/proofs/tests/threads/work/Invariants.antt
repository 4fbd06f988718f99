use Rattle.std.proofs.Common.{◌≡◌}
use Rattle.sms_window.proofs.tests.threads.work.Given as goal

abbrev pub invariant-loop : goal.invariant-loop
invariant-loop l = record { own : l.seat.window ≡ l.initial.seat.window }
