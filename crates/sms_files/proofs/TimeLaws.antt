-- Seconds that are sent as a time from now on, read back.
use Rattle.std.proofs.Common.{◌≡◌, ◌≤◌, ℕ, ◌+◌, ◌*◌, ◌/◌, ◌%◌, true, arith, refl}
use Rattle.std.proofs.Math.Nat.{div-add-mod}
use Rattle.std.proofs.lemmas.Bool.{le-leb}
use Rattle.sms_files.specs.Times.{is_digit, is_pair, number_by}
use Rattle.sms_files.specs.TimeLaws.{SecondsAreReadBack}

-- two digits spell their number
spelled_by : (n : ℕ) → number_by (48 + n / 10) (48 + n % 10) ≡ n
spelled_by n = let d = div-add-mod n 10 in omega arith

digit : (n : ℕ) → n ≤ 9 → is_digit (48 + n) ≡ true
digit n h = rw (le-leb 48 (48 + n) (omega arith), le-leb (48 + n) 57 (omega arith)) refl

pair : (n most : ℕ) → n ≤ most → most ≤ 99 → is_pair 0 most (48 + n / 10) (48 + n % 10) ≡ true
pair n most within small =
    rw (digit (n / 10) (omega arith), digit (n % 10) (omega arith), spelled_by n, le-leb 0 n (omega arith), le-leb n most within) refl

sums : (s : ℕ) → s / 86400 * 86400 + s / 3600 % 24 * 3600 + s / 60 % 60 * 60 + s % 60 ≡ s
sums s = omega arith

pub seconds_read : SecondsAreReadBack
seconds_read s few = record {
  spelled = rw (pair (s / 86400) 31 (omega arith) (omega arith), pair (s / 3600 % 24) 23 (omega arith) (omega arith), pair (s / 60 % 60) 59 (omega arith) (omega arith), pair (s % 60) 59 (omega arith) (omega arith)) refl;
  from_now_on = refl;
  years = refl;
  months = refl;
  all = rw (spelled_by (s / 86400), spelled_by (s / 3600 % 24), spelled_by (s / 60 % 60), spelled_by (s % 60)) (sums s);
}
