-- The times of SMPP (SMPP 3.4 7.1.1): sixteen characters YYMMDDhhmmsstnnp. p is + or - for a time of the clock, whose nn is how many quarters of an
-- hour it is ahead of UTC or behind it; or R for a time from now on, whose month and day may be 0.
use Rattle.std.specs.Prelude.{ℕ, ◌+◌, ◌-◌, ◌*◌, ◌/◌, ◌%◌, ◌==◌, ◌&&◌, ◌||◌, nat_le, Bool, false, List, [], ◌∷◌, Option, Some, None, length, slice_index_or, if◌then◌else◌}

abbrev pub is_digit : ℕ → Bool
is_digit c = nat_le 48 c && nat_le c 57

-- two digits, and the number that they spell is from the least to the most
abbrev pub number_by : ℕ → ℕ → ℕ
number_by tens ones = 10 * (tens - 48) + (ones - 48)

abbrev pub is_within : ℕ → ℕ → ℕ → Bool
is_within least most number = nat_le least number && nat_le number most

abbrev pub is_pair : ℕ → ℕ → ℕ → ℕ → Bool
is_pair least most tens ones = if is_digit tens && is_digit ones then is_within least most (number_by tens ones) else false

abbrev pub has_pair : List ℕ → ℕ → ℕ → ℕ → Bool
has_pair text place least most = is_pair least most (slice_index_or text place 0) (slice_index_or text (place + 1) 0)

abbrev pub is_relative : List ℕ → Bool
is_relative text = slice_index_or text 15 0 == 82

abbrev pub is_of_clock : List ℕ → Bool
is_of_clock text = (slice_index_or text 15 0 == 43) || (slice_index_or text 15 0 == 45)

-- the least month, and the least day
abbrev pub least_of : List ℕ → ℕ
least_of text = if is_relative text then 0 else 1

-- year, month, day
abbrev pub has_date : List ℕ → Bool
has_date text = has_pair text 0 0 99 && has_pair text 2 (least_of text) 12 && has_pair text 4 (least_of text) 31

-- hour, minute, second, tenth of a second, quarters of an hour
abbrev pub has_clock : List ℕ → Bool
has_clock text = has_pair text 6 0 23 && has_pair text 8 0 59 && has_pair text 10 0 59 && is_digit (slice_index_or text 12 0) && has_pair text 13 0 48

abbrev pub is_spelled : List ℕ → Bool
is_spelled text = (length text == 16) && (is_relative text || is_of_clock text) && has_date text && has_clock text

-- a time, or none
abbrev pub time_text : List ℕ → Option (List ℕ)
time_text text = if (length text == 0) || is_spelled text then Some text else None

-- ---- a number of seconds from now on

abbrev pub in_two : ℕ → List ℕ → List ℕ
in_two n rest = (48 + n / 10) ∷ ((48 + n % 10) ∷ rest)

-- days, hours, minutes and seconds, in the form of a time from now on; there are at most 99 days
abbrev pub from_now : ℕ → List ℕ
from_now seconds =
    48 ∷ 48 ∷ 48 ∷ 48 ∷ in_two (seconds / 86400) (in_two (seconds / 3600 % 24) (in_two (seconds / 60 % 60) (in_two (seconds % 60) (48 ∷ 48 ∷ 48 ∷ 82 ∷ []))))
