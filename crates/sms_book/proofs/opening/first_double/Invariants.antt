use Rattle.std.proofs.Common.{ℕ, ◌<◌}
use Rattle.sms_book.specs.Openings.{names_of, HaveOneName}
use Rattle.sms_book.proofs.opening.first_double.Given as goal

abbrev pub invariant-loop-second : goal.invariant-loop-second
invariant-loop-second l = (x y : ℕ) → y < l.second → ¬ (HaveOneName (names_of l.openings) x y)
