use Rattle.std.proofs.Common.{◌≡◌, All}
use Rattle.sms_window.proofs.tests.seats_of.Given as goal

abbrev pub invariant-loop : goal.invariant-loop
invariant-loop g l = record { own : l.keeper.window ≡ l.initial.keeper.window; seats : All (λ s. s.window ≡ l.window) l.seats.items }
