-- The most that a book takes beside the core's limits, in numbers of the definitions' own.
use Rattle.std.specs.Prelude.{ℕ, ◌^◌}

-- the workers that a book has shares for
abbrev pub most_workers : ℕ
most_workers = 32

-- the rates of a tariff
abbrev pub most_rates : ℕ
most_rates = 1000

-- the digits of a rate's prefix
abbrev pub most_digits : ℕ
most_digits = 20

-- the credits of an account that are returned and reserved together, so that no sum wraps
abbrev pub most_returned : ℕ
most_returned = 2 ^ 60
