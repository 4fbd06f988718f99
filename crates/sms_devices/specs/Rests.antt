-- How long a worker waits that has nothing to do.
use Rattle.std.specs.Prelude.{ℕ, Bool, max, min, if◌then◌else◌}

-- a worker asks for `ms`, and has nothing to do by the clock for `most`. If a bell rings for all else that it waits for, it waits for
-- `most`, but no longer than 100 ms. Otherwise, and at least, it waits as long as it asked for
abbrev pub rest_ms : ℕ → ℕ → Bool → ℕ
rest_ms ms most rings_for_all = if rings_for_all then max ms (min most 100) else ms
