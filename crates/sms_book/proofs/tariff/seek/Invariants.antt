use Rattle.std.proofs.Common.{ℕ, ◌-◌, ◌<◌, ◌≤◌, length}
use Rattle.sms_book.specs.Tariffs.{prices_of}
use Rattle.sms_book.specs.Indexes.{prefix_in, Before}
use Rattle.sms_book.proofs.tariff.seek.Given as goal

abbrev pub invariant-loop-low : goal.invariant-loop-low
invariant-loop-low l = record {
  ends : l.low ≤ l.high;
  within : l.high ≤ length l.order;
  below : (i : ℕ) → i < l.low → Before (prefix_in (prices_of l.rates) l.order i) l.prefix;
  above : (i : ℕ) → l.high ≤ i → i < length l.order → Before l.prefix (prefix_in (prices_of l.rates) l.order i);
}

abbrev pub decreases-loop-low : goal.decreases-loop-low
decreases-loop-low l = l.high - l.low
