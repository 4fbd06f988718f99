-- The numbers that options are given.
use Rattle.std.specs.Prelude.{ℕ, nat_le, Option, Some, None, option_and_then, option_map, if◌then◌else◌}
use Rattle.clap.specs.Words.{Text}
use Rattle.sms_core.specs.Decimal.{decimal_in}

-- the number that a text spells, from 1 to so much
abbrev pub at_least_one : ℕ → Option ℕ
at_least_one number = if nat_le 1 number then Some number else None

abbrev pub number_in : ℕ → Text → Option ℕ
number_in most text = option_and_then at_least_one (decimal_in most text)

-- what an option says of a number that needn't be given; nothing where its text spells none in range
abbrev pub number_of : ℕ → Option Text → Option (Option ℕ)
number_of most None = Some None
number_of most (Some text) = option_map (λ number. Some number) (number_in most text)
