use Rattle.std.proofs.Common.{◌≡◌}
use Rattle.sms_window.specs.Seats.{met_with}
use Rattle.sms_window.proofs.tests.threads.claim_some.Given as goal

abbrev pub invariant-loop : goal.invariant-loop
invariant-loop l = record { own : l.seat.window ≡ l.initial.seat.window; same : l.seat.view ≡ met_with l.initial.seat.view l.seat.view.met }
