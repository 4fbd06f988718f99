use Rattle.std.proofs.Common.{◌≡◌}
use Rattle.sms_window.proofs.tests.claim_all.Given as goal

abbrev pub invariant-loop-slot : goal.invariant-loop-slot
invariant-loop-slot g l = record { own : l.seat.window ≡ l.initial.seat.window }
