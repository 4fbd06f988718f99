-- Texts of decimal numbers, as files, settings and scripts spell them.
use Rattle.std.specs.Prelude.{ℕ, ◌&&◌, nat_lt, nat_le, Bool, List, length, Option, Some, None, if◌then◌else◌}
use Rattle.std.specs.Str.{all_ascii_digits}
use Rattle.std.specs.Str.Parse.{digits_value}

-- 1 to 20 ASCII digits, leading zeros among them
abbrev pub is_numeral : List ℕ → Bool
is_numeral text = nat_lt 0 (length text) && nat_le (length text) 20 && all_ascii_digits text

-- the number that a text spells, where it is at most so much
abbrev pub decimal_in : ℕ → List ℕ → Option ℕ
decimal_in most text = if is_numeral text && nat_le (digits_value 10 text) most then Some (digits_value 10 text) else None
