-- Limits of the rules, in numbers of the definitions' own.
use Rattle.std.specs.Prelude.{ℕ, ◌^◌}

-- how many turns a worker takes
abbrev pub most_turns : ℕ
most_turns = 2 ^ 40
