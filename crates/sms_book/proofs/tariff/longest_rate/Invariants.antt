use Rattle.std.proofs.Common.{ℕ, ◌<◌, ◌≤◌, length}
use Rattle.sms_book.specs.Tariffs.{prices_of, price_at, Begins}
use Rattle.sms_book.proofs.tariff.longest_rate.Given as goal

-- the prefixes that the digits begin with are short
abbrev pub invariant-loop-place : goal.invariant-loop-place
invariant-loop-place l = record {
  within : l.most ≤ length l.digits;
  short : (place : ℕ) → place < length l.rates → Begins l.digits (price_at (prices_of l.rates) place).prefix → length (price_at (prices_of l.rates) place).prefix ≤ l.most;
}

abbrev pub decreases-loop-place : goal.decreases-loop-place
decreases-loop-place l = l.most
