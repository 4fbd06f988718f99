use Rattle.std.proofs.Common.{ℕ, ◌<◌}
use Rattle.sms_book.specs.Tariffs.{prices_of, IsGoodAt}
use Rattle.sms_book.proofs.rate.check_rates.Given as goal

abbrev pub invariant-loop-place : goal.invariant-loop-place
invariant-loop-place l = (k : ℕ) → k < l.place → IsGoodAt (prices_of l.rates) k
