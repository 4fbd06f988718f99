-- Days by the Gregorian calendar.
use Rattle.std.specs.Prelude.{ℕ, zero, suc, ◌+◌, ◌%◌, ◌==◌, ◌&&◌, ◌||◌, not, nat_lt, Bool, if◌then◌else◌}
use Rattle.sms_journal.specs.declared.bill.calendar.Date.{Date}

abbrev pub is_leap : ℕ → Bool
is_leap year = (year % 4 == 0) && (not (year % 100 == 0) || (year % 400 == 0))

-- how many days a month has
abbrev pub days_in : ℕ → ℕ → ℕ
days_in year month = if month == 2 then (if is_leap year then 29 else 28) else (if (month == 4) || ((month == 6) || ((month == 9) || (month == 11))) then 30 else 31)

-- and a year
abbrev pub year_days : ℕ → ℕ
year_days year = if is_leap year then 366 else 365

-- the first day of a year
abbrev pub first_of : ℕ → Date
first_of year = record { year = year; month = 1; day = 1 }

-- the day after a day
abbrev pub day_after : Date → Date
day_after d =
    if nat_lt d.day (days_in d.year d.month) then record d { day = d.day + 1 }
    else (if nat_lt d.month 12 then record { year = d.year; month = d.month + 1; day = 1 } else first_of (d.year + 1))

-- the day that is so many days after 1 January 1970
abbrev pub date_of : ℕ → Date
date_of zero = first_of 1970
date_of (suc days) = day_after (date_of days)
