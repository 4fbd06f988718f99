-- Times as RFC 3339 (5.6) writes them, in UTC.
use Rattle.std.specs.Prelude.{ℕ, ◌+◌, ◌/◌, ◌%◌, ◌&&◌, nat_lt, Bool, List, [], ◌∷◌, ◌++◌, Option, Some, None, codes, if◌then◌else◌}
use Rattle.sms_journal.specs.declared.bill.calendar.Date.{Date}
use Rattle.sms_journal.specs.Calendar.{date_of}

-- the last digit of a number, the last two, three and four
abbrev pub one_digit : ℕ → List ℕ
one_digit n = (48 + n % 10) ∷ []

abbrev pub two_digits : ℕ → List ℕ
two_digits n = one_digit (n / 10) ++ one_digit n

abbrev pub three_digits : ℕ → List ℕ
three_digits n = one_digit (n / 100) ++ two_digits n

abbrev pub four_digits : ℕ → List ℕ
four_digits n = two_digits (n / 100) ++ two_digits n

-- year, month and day
abbrev pub date_text : Date → List ℕ
date_text d = four_digits d.year ++ codes "-" ++ two_digits d.month ++ codes "-" ++ two_digits d.day

-- the hour and the minute of the day, and the second, where so many milliseconds have passed
abbrev pub minute_text : ℕ → List ℕ
minute_text ms = two_digits (ms / 3600000) ++ codes ":" ++ two_digits (ms / 60000 % 60)

abbrev pub second_text : ℕ → List ℕ
second_text ms = two_digits (ms / 1000 % 60) ++ codes "." ++ three_digits (ms % 1000)

-- the time of the day that is so many milliseconds after midnight
abbrev pub clock_text : ℕ → List ℕ
clock_text ms = minute_text ms ++ codes ":" ++ second_text ms

-- the time that is so many milliseconds after the beginning of 1970
abbrev pub instant_text : ℕ → List ℕ
instant_text time = date_text (date_of (time / 86400000)) ++ codes "T" ++ clock_text (time % 86400000) ++ codes "Z"

-- 0 stands for a time that isn't known, and a year has four digits
abbrev pub is_told : ℕ → Bool
is_told time = nat_lt 0 time && nat_lt time 253402300800000

-- a comma and the time, where there is one that is known
abbrev pub told_text : ℕ → List ℕ
told_text time = if is_told time then instant_text time else []

abbrev pub moment_field : Option ℕ → List ℕ
moment_field None = codes ","
moment_field (Some time) = codes "," ++ told_text time
