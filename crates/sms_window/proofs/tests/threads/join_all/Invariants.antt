use Rattle.std.proofs.Common.{◌≡◌, All, vec_len}
use Rattle.sms_window.proofs.tests.threads.join_all.Given as goal

abbrev pub invariant-loop-seat : goal.invariant-loop-seat
invariant-loop-seat g l = record { own : l.keeper.window ≡ l.initial.keeper.window; seats : All (λ p. p.0.window ≡ l.window) l.worked.items }

abbrev pub decreases-loop-seat : goal.decreases-loop-seat
decreases-loop-seat g l = vec_len l.worked
