-- Days that follow one another.
use Rattle.std.proofs.Common.{◌≡◌, ◌∙◌, ◌<◌, ◌≤◌, sym, refl, ap, subst, ℕ, zero, suc, ◌+◌, ◌-◌, Bool, true, false, arith}
use Rattle.std.specs.Prelude.{nat_lt, if◌then◌else◌}
use Rattle.std.proofs.lemmas.Bool.Decides.{nat_tests}
use Rattle.sms_journal.specs.declared.bill.calendar.Date.{Date}
use Rattle.sms_journal.specs.Calendar.{date_of, day_after, days_in, first_of, is_leap, year_days}

-- a day of a month
abbrev pub at : ℕ → ℕ → ℕ → Date
at year month day = record { year = year; month = month; day = day }

-- how many days a year has before a month
abbrev pub before : ℕ → ℕ → ℕ
before year zero = 0
before year (suc zero) = 0
before year (suc (suc month)) = before year (suc month) + days_in year (suc month)

lower : (a b : ℕ) → a < b → nat_lt a b ≡ true
lower a b h = grind (arith, nat_tests)

not_lower : (a b : ℕ) → b ≤ a → nat_lt a b ≡ false
not_lower a b h = grind (arith, nat_tests)

-- the next day of the month
within : (year month day : ℕ) → day < days_in year month → day_after (at year month day) ≡ at year month (day + 1)
within year month day h = rw (lower day (days_in year month) h) refl

-- the first of the next month
behind : (year month day : ℕ) → days_in year month ≤ day → month < 12 → day_after (at year month day) ≡ at year (month + 1) 1
behind year month day h low = rw (not_lower day (days_in year month) h) (rw (lower month 12 low) refl)

-- the first of the next year
behind_year : (year day : ℕ) → 31 ≤ day → day_after (at year 12 day) ≡ first_of (year + 1)
behind_year year day h = rw (not_lower day (days_in year 12) h) refl

along : (n year month k : ℕ) → date_of n ≡ at year month 1 → k < days_in year month → date_of (k + n) ≡ at year month (k + 1)
along n year month zero first h = let count : 0 + n ≡ n = omega arith in ap date_of count ∙ first
along n year month (suc k) first h =
    let so = along n year month k first (omega (arith, h)) in
    let count : suc k + n ≡ suc (k + n) = omega arith in
    ap date_of count ∙ ap day_after so ∙ within year month (k + 1) (omega (arith, h)) ∙ ap (at year month) (omega arith)

some_days : (year month : ℕ) → 1 ≤ days_in year month
some_days year month = grind arith

-- a month later
month_later : (n year month : ℕ) → month < 12 → date_of n ≡ at year month 1 → date_of (days_in year month + n) ≡ at year (month + 1) 1
month_later n year month low first =
    let some = some_days year month in
    let last = along n year month (days_in year month - 1) first (omega (arith, some)) in
    let count : days_in year month + n ≡ suc ((days_in year month - 1) + n) = omega (arith, some) in
    ap date_of count ∙ ap day_after last ∙ behind year month (days_in year month - 1 + 1) (omega (arith, some)) low

-- the first of each month of a year
pub month_first : (n year month : ℕ) → suc month ≤ 12 → date_of n ≡ first_of year → date_of (before year (suc month) + n) ≡ at year (suc month) 1
month_first n year zero low first = let count : 0 + n ≡ n = omega arith in ap date_of count ∙ first
month_first n year (suc month) low first =
    let so = month_first n year month (omega (arith, low)) first in
    let next = month_later (before year (suc month) + n) year (suc month) (omega (arith, low)) so in
    let same : (before year (suc month) + days_in year (suc month)) + n ≡ days_in year (suc month) + (before year (suc month) + n) = omega arith in
    ap date_of same ∙ next ∙ ap (λ (m : ℕ). at year m 1) (omega arith)

pub whole_year : (year : ℕ) → before year 12 + 31 ≡ year_days year
whole_year year = elim (is_leap year) as (λ (b : Bool). 0 + 31 + (if b then 29 else 28) + 31 + 30 + 31 + 30 + 31 + 31 + 30 + 31 + 30 + 31 ≡ (if b then 366 else 365)) [ true ↦ refl | false ↦ refl ]

-- a year later
pub year_later : (n year : ℕ) → date_of n ≡ first_of year → date_of (n + year_days year) ≡ first_of (year + 1)
year_later n year first =
    let december = month_first n year 11 (omega arith) first in
    let last = along (before year 12 + n) year 12 30 december (omega arith) in
    let whole = whole_year year in
    let count : n + year_days year ≡ suc (30 + (before year 12 + n)) = omega (arith, whole) in
    ap date_of count ∙ ap day_after last ∙ behind_year year 31 (omega arith)

-- the day that is so many days after the first of a month
pub day_in_month : (n year month rest left : ℕ) → 1 ≤ month → month ≤ 12 → before year month + rest ≡ left → rest < days_in year month → date_of n ≡ first_of year
    → at year month (rest + 1) ≡ date_of (n + left)
day_in_month n year zero rest left low high sum fits first = absurd (omega (arith, low))
day_in_month n year (suc month) rest left low high sum fits first =
    let so = month_first n year month high first in
    let there = along (before year (suc month) + n) year (suc month) rest so fits in
    let count : n + left ≡ rest + (before year (suc month) + n) = omega (arith, sum) in
    sym there ∙ sym (ap date_of count)

-- in December no more is left than it has days
pub last_fits : (year month rest left : ℕ) → 12 ≤ month → month ≤ 12 → before year month + rest ≡ left → left < year_days year → rest < days_in year month
last_fits year month rest left low high sum fits =
    let same : 12 ≡ month = omega (arith, low, high) in
    let whole = whole_year year in
    let here : before year 12 + rest ≡ left = subst (λ (m : ℕ). before year m + rest ≡ left) (sym same) sum in
    subst (λ (m : ℕ). rest < days_in year m) same (omega (arith, whole, here, fits))

pub some_year : (year : ℕ) → 1 ≤ year_days year
some_year year = grind arith
