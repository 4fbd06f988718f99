-- How many digits the numbers of the line on the way have.
use Rattle.std.proofs.Common.{◌≡◌, ℕ, ◌+◌, ◌-◌, ◌*◌, ◌/◌, ◌<◌, ◌≤◌, ◌^◌, length, decimal, arith, ⊎_elim}
use Rattle.std.proofs.Math.Nat.{div-mul-le_self, le_of_mul-le-mul_right, mul-le-mul_left, mul-le-mul_right}
use Rattle.std.proofs.lemmas.Bool.{cases_lt}
use Rattle.std.proofs.lemmas.Fmt.{length-decimal-le}
use Rattle.std.proofs.lemmas.Nat.{mul-le}
use Rattle.sms_files.specs.Laws.{year}

abbrev pub digits : ℕ → ℕ
digits n = length (decimal n)

pub digits_1 : (n : ℕ) → n < 10 → digits n ≤ 1
digits_1 n h = length-decimal-le 1 n (omega arith) (omega arith) (omega arith)

digits_4 : (n : ℕ) → n < 10_000 → digits n ≤ 4
digits_4 n h = length-decimal-le 4 n (omega arith) (omega arith) (omega arith)

digits_5 : (n : ℕ) → n < 100_000 → digits n ≤ 5
digits_5 n h = length-decimal-le 5 n (omega arith) (omega arith) (omega arith)

pub digits_6 : (n : ℕ) → n < 1_000_000 → digits n ≤ 6
digits_6 n h = length-decimal-le 6 n (omega arith) (omega arith) (omega arith)

digits_7 : (n : ℕ) → n < 10_000_000 → digits n ≤ 7
digits_7 n h = length-decimal-le 7 n (omega arith) (omega arith) (omega arith)

digits_8 : (n : ℕ) → n < 100_000_000 → digits n ≤ 8
digits_8 n h = length-decimal-le 8 n (omega arith) (omega arith) (omega arith)

digits_9 : (n : ℕ) → n < 1_000_000_000 → digits n ≤ 9
digits_9 n h = length-decimal-le 9 n (omega arith) (omega arith) (omega arith)

digits_10 : (n : ℕ) → n < 10_000_000_000 → digits n ≤ 10
digits_10 n h = length-decimal-le 10 n (omega arith) (omega arith) (omega arith)

digits_13 : (n : ℕ) → n < 10_000_000_000_000 → digits n ≤ 13
digits_13 n h = length-decimal-le 13 n (omega arith) (omega arith) (omega arith)

-- ---- three counts, and their sum

abbrev pub digits_of_counts : ℕ → ℕ → ℕ → ℕ → ℕ
digits_of_counts e c r u = digits e + digits c + digits r + digits u

-- of at most k digits each
counts_below : (k e c r u : ℕ) → e ≡ c + r + u → 0 < k → e < 10 ^ k → e < 2 ^ 64 → digits_of_counts e c r u ≤ 4 * k
counts_below k e c r u sum some fits small =
    omega (
      arith,
      length-decimal-le k e some fits small,
      length-decimal-le k c some (omega arith) (omega arith),
      length-decimal-le k r some (omega arith) (omega arith),
      length-decimal-le k u some (omega arith) (omega arith),
    )

pub few_counts : (e c r u : ℕ) → e ≡ c + r + u → e < 10 → digits_of_counts e c r u ≤ 4
few_counts e c r u sum h = counts_below 1 e c r u sum (omega arith) (omega arith) (omega arith)

counts_3 : (e c r u : ℕ) → e ≡ c + r + u → e < 1_000 → digits_of_counts e c r u ≤ 12
counts_3 e c r u sum h = counts_below 3 e c r u sum (omega arith) (omega arith) (omega arith)

counts_4 : (e c r u : ℕ) → e ≡ c + r + u → e < 10_000 → digits_of_counts e c r u ≤ 16
counts_4 e c r u sum h = counts_below 4 e c r u sum (omega arith) (omega arith) (omega arith)

counts_5 : (e c r u : ℕ) → e ≡ c + r + u → e < 100_000 → digits_of_counts e c r u ≤ 20
counts_5 e c r u sum h = counts_below 5 e c r u sum (omega arith) (omega arith) (omega arith)

-- one of three that are below 30,000 together has four digits at most
counts_of_30000 : (e c r u : ℕ) → e ≡ c + r + u → e < 30_000 → digits_of_counts e c r u ≤ 19
counts_of_30000 e c r u sum h =
    ⊎_elim
    (λ (low : c < 10_000). omega (arith, digits_5 e (omega arith), digits_4 c low, digits_5 r (omega arith), digits_5 u (omega arith)))
    (λ (high : 10_000 ≤ c). ⊎_elim
    (λ (low : r < 10_000). omega (arith, digits_5 e (omega arith), digits_5 c (omega arith), digits_4 r low, digits_5 u (omega arith)))
    (λ (more : 10_000 ≤ r). omega (arith, digits_5 e (omega arith), digits_5 c (omega arith), digits_5 r (omega arith), digits_4 u (omega arith)))
    (cases_lt r 10_000))
    (cases_lt c 10_000)

-- three that are 100,000 together: one is that, and the others are 0, or none has six digits
counts_of_all : (e c r u : ℕ) → e ≡ c + r + u → e ≡ 100_000 → digits_of_counts e c r u ≤ 21
counts_of_all e c r u sum all =
    ⊎_elim
    (λ (c_low : c < 100_000). ⊎_elim
    (λ (r_low : r < 100_000). ⊎_elim
    (λ (u_low : u < 100_000). omega (arith, digits_6 e (omega arith), digits_5 c c_low, digits_5 r r_low, digits_5 u u_low))
    (λ (u_all : 100_000 ≤ u). omega (arith, digits_6 e (omega arith), digits_1 c (omega arith), digits_1 r (omega arith), digits_6 u (omega arith)))
    (cases_lt u 100_000))
    (λ (r_all : 100_000 ≤ r). omega (arith, digits_6 e (omega arith), digits_1 c (omega arith), digits_6 r (omega arith), digits_1 u (omega arith)))
    (cases_lt r 100_000))
    (λ (c_all : 100_000 ≤ c). omega (arith, digits_6 e (omega arith), digits_6 c (omega arith), digits_1 r (omega arith), digits_1 u (omega arith)))
    (cases_lt c 100_000)

-- ---- the rate and the seconds that are left

-- e ended in so many milliseconds, and o others haven't
pub record Paced (e ms o rate left : ℕ) : Type 0 where
  pub quick : rate * ms ≤ e * 1_000
  pub soon : left * 1_000 * e ≤ o * ms

pub paced : (e ms o x y : ℕ) → x ≤ e * 1_000 → y ≤ o * ms → Paced e ms o (x / ms) (y / e / 1_000)
paced e ms o x y few many =
    let whole : y / e / 1_000 * 1_000 ≤ y / e = div-mul-le_self (y / e) 1_000 in
    record {
      quick = omega (arith, div-mul-le_self x ms);
      soon = omega (arith, div-mul-le_self y e, mul-le-mul_right e whole);
    }

-- in the seconds that are left no more end than there are
ends_others : (e ms o rate left : ℕ) → 0 < e → Paced e ms o rate left → left * rate ≤ o
ends_others e ms o rate left some pace =
    let soon : left * 1_000 * e * rate ≤ o * ms * rate = mul-le-mul_right rate pace.soon in
    let quick : o * (rate * ms) ≤ o * (e * 1_000) = mul-le-mul_left o pace.quick in
    le_of_mul-le-mul_right {k = e * 1_000} (omega arith) (omega arith)

rate_of_most : (e ms o rate left : ℕ) → e ≤ 100_000 → 10 < ms → Paced e ms o rate left → rate < 10_000_000
rate_of_most e ms o rate left most begun pace =
    let least : 11 ≤ ms = omega arith in
    omega (arith, pace.quick, mul-le-mul_left rate least)

-- where one or more ended in a second
quick_pace : (e ms o rate left : ℕ) → 0 < e → e ≤ 100_000 → o < 100_000 → 10 < ms → Paced e ms o rate left → 0 < rate → digits rate + digits left ≤ 9
quick_pace e ms o rate left some most others begun pace going =
    let ends : left * rate ≤ o = ends_others e ms o rate left some pace in
    ⊎_elim
    (λ (low : rate < 10_000).
    let is_one : 1 ≤ rate = going in
    omega (arith, digits_4 rate low, digits_5 left (omega (arith, mul-le-mul_left left is_one))))
    (λ (high : 10_000 ≤ rate).
    omega (arith, digits_7 rate (rate_of_most e ms o rate left most begun pace), digits_1 left (omega (arith, mul-le-mul_left left high))))
    (cases_lt rate 10_000)

-- where all ended
pace_of_all : (e ms o rate left : ℕ) → 0 < e → e ≤ 100_000 → o ≡ 0 → 10 < ms → Paced e ms o rate left → digits rate + digits left ≤ 8
pace_of_all e ms o rate left some most none begun pace =
    let is_one : 1 ≤ e = some in
    let no_others : o ≤ 0 = omega arith in
    omega (
      arith,
      digits_7 rate (rate_of_most e ms o rate left most begun pace),
      digits_1 left (omega (arith, pace.soon, mul-le-mul_left (left * 1_000) is_one, mul-le-mul_right ms no_others)),
    )

-- in a year, where at least so many ended and at most so many haven't
left_below : (e ms o left least most : ℕ) → left * 1_000 * e ≤ o * ms → least ≤ e → o ≤ most → ms ≤ year → left * 1_000 * least ≤ most * year
left_below e ms o left least most soon enough few short = omega (arith, mul-le-mul_left (left * 1_000) enough, mul-le o ms most year few short)

-- where fewer than one ended in a second
slow_pace : (e c r u ms o left : ℕ) → e ≡ c + r + u → 0 < e → e < 100_000 → o + e ≤ 100_000 → ms ≤ year → left * 1_000 * e ≤ o * ms
    → digits_of_counts e c r u + digits left ≤ 28
slow_pace e c r u ms o left sum some most others short soon =
    ⊎_elim
    (λ (low : e < 1_000). omega (arith, counts_3 e c r u sum low, digits_13 left (omega (arith, left_below e ms o left 1 100_000 soon some (omega arith) short))))
    (λ (high : 1_000 ≤ e). ⊎_elim
    (λ (low : e < 10_000). omega (arith, counts_4 e c r u sum low, digits_10 left (omega (arith, left_below e ms o left 1_000 100_000 soon high (omega arith) short))))
    (λ (more : 10_000 ≤ e). ⊎_elim
    (λ (low : e < 30_000). omega (arith, counts_of_30000 e c r u sum low, digits_9 left (omega (arith, left_below e ms o left 10_000 100_000 soon more (omega arith) short))))
    (λ (most_of : 30_000 ≤ e). omega (arith, counts_5 e c r u sum most, digits_8 left (omega (arith, left_below e ms o left 30_000 70_000 soon most_of (omega arith) short))))
    (cases_lt e 30_000))
    (cases_lt e 10_000))
    (cases_lt e 1_000)

-- ---- all of them

pub all_digits : (e c r u all ms rate left : ℕ) → e ≡ c + r + u → 0 < e → e ≤ 100_000 → all ≤ 100_000 → 10 < ms → ms ≤ year → Paced e ms (all - e) rate left
    → digits_of_counts e c r u + (digits rate + digits left) ≤ 29
all_digits e c r u all ms rate left sum some most few begun short pace =
    ⊎_elim
    (λ (low : e < 100_000). ⊎_elim
    (λ (going : 0 < rate). omega (arith, counts_5 e c r u sum low, quick_pace e ms (all - e) rate left some most (omega arith) begun pace going))
    (λ (still : rate ≤ 0). omega (arith, digits_1 rate (omega arith), slow_pace e c r u ms (all - e) left sum some low (omega arith) short pace.soon))
    (cases_lt 0 rate))
    (λ (high : 100_000 ≤ e). omega (arith, counts_of_all e c r u sum (omega arith), pace_of_all e ms (all - e) rate left some most (omega arith) begun pace))
    (cases_lt e 100_000)
