use Rattle.std.proofs.Common.{◌≡◌, ℕ, ◌+◌, ◌-◌, ◌/◌, ◌<◌, List, ap, sym, ◌∙◌, arith, length}
use Rattle.std.specs.Prelude.{string_bytes, slice_index, slice_index_or}
use Rattle.std.specs.Cmp.Lexicographic.{slice_cmp}
use Rattle.std.specs.Ordering.{nat_cmp}
use Rattle.std.proofs.lemmas.Map.Lookups.{exact_bytes}
use Rattle.sms_book.specs.Tariffs.{Price, prices_of}
use Rattle.sms_book.specs.Indexes.{prefix_in, Before}
use Rattle.sms_book.proofs.Refusals.{price_read}
use Rattle.sms_book.proofs.Halving.{before_greater, below_middle, above_middle}
use Rattle.sms_book.proofs.tariff.seek.Goals as goal

pub loop-low-preserved-in-Less : goal.loop-low-preserved-in-Less
loop-low-preserved-in-Less c =
    let i = c.loop-low.invariant in
    let test = c.loop-low-test.true in
    let ends = i.ends in
    let within = i.within in
    let middle = c.loop-low.low + (c.loop-low.high - c.loop-low.low) / 2 in
    let low : middle < length c.args.order.now = omega arith in
    let (n, few, index) = c.requires in
    let there = index.places middle low in
    let price = price_read c.args.rates.now (slice_index c.args.order.now middle) c.index-rates-order.result (omega arith) in
    let is : prefix_in (prices_of c.args.rates.now) c.args.order.now middle ≡ string_bytes (slice_index_or c.args.rates.now (slice_index c.args.order.now middle) c.index-rates-order.result).prefix = ap (λ (p : Price). p.prefix) price in
    let less : Before (prefix_in (prices_of c.args.rates.now) c.args.order.now middle) c.args.prefix.now =
    ap (λ (x : List ℕ). slice_cmp nat_cmp x c.args.prefix.now) (is ∙ sym c.as_bytes.ensures.value) ∙ sym c.cmp.ensures ∙ c.in-Less.is in
    record {
      ends = omega arith;
      within = i.within;
      below = λ k at. below_middle _ _ n _ middle k index low less at;
      above = i.above;
    }

pub loop-low-preserved : goal.loop-low-preserved
loop-low-preserved c =
    let i = c.loop-low.invariant in
    let test = c.loop-low-test.true in
    let ends = i.ends in
    let within = i.within in
    let middle = c.loop-low.low + (c.loop-low.high - c.loop-low.low) / 2 in
    let low : middle < length c.args.order.now = omega arith in
    let (n, few, index) = c.requires in
    let there = index.places middle low in
    let price = price_read c.args.rates.now (slice_index c.args.order.now middle) c.index-rates-order.result (omega arith) in
    let is : prefix_in (prices_of c.args.rates.now) c.args.order.now middle ≡ string_bytes (slice_index_or c.args.rates.now (slice_index c.args.order.now middle) c.index-rates-order.result).prefix = ap (λ (p : Price). p.prefix) price in
    let more : Before c.args.prefix.now (prefix_in (prices_of c.args.rates.now) c.args.order.now middle) =
    before_greater (prefix_in (prices_of c.args.rates.now) c.args.order.now middle) c.args.prefix.now (ap (λ (x : List ℕ). slice_cmp nat_cmp x c.args.prefix.now) (is ∙ sym c.as_bytes.ensures.value) ∙ sym c.cmp.ensures ∙ c.in-Greater.is) in
    record {
      ends = omega arith;
      within = omega arith;
      below = i.below;
      above = λ k at k-low. above_middle _ _ n _ middle k index more at k-low;
    }

pub returns-in-Equal-clause-found : goal.returns-in-Equal-clause-found
returns-in-Equal-clause-found c =
    let i = c.loop-low.invariant in
    let test = c.loop-low-test.true in
    let ends = i.ends in
    let within = i.within in
    let middle = c.loop-low.low + (c.loop-low.high - c.loop-low.low) / 2 in
    let low : middle < length c.args.order.now = omega arith in
    let (n, few, index) = c.requires in
    let there = index.places middle low in
    let price = price_read c.args.rates.now (slice_index c.args.order.now middle) c.index-rates-order.result (omega arith) in
    record {
      at = middle;
      within = low;
      is = λ _. slice_index c.args.order.now middle;
      same = ap (λ (p : Price). p.prefix) price ∙ sym c.as_bytes.ensures.value ∙ exact_bytes _ _ (sym c.cmp.ensures ∙ c.in-Equal.is);
    }
