-- Limits of a worker, in numbers of the definitions' own.
use Rattle.std.specs.Prelude.{ℕ}

-- how many tries to draw a number a worker makes for a segment in a turn
abbrev pub most_draws : ℕ
most_draws = 1000
