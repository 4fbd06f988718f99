use Rattle.std.proofs.Common.{◌≡◌, ℕ, List, arith, sym, ap, ◌∙◌, subst}
use Rattle.std.proofs.lemmas.List.{length-map}
use Rattle.sms_book.specs.Tariffs.{Price, price_of, prices_of}
use Rattle.sms_book.specs.Indexes.{IsIndex, TariffStands}
use Rattle.sms_book.proofs.Pushes.{pushed_like, all_pushed}
use Rattle.sms_book.proofs.tariff.kept.Goals as goal

pub loop-rate-preserved : goal.loop-rate-preserved
loop-rate-preserved c =
    let text = c.in_ok-from_str.ensures.ok ∙ c.as_str.ensures.value in (
      pushed_like price_of price_of c.args.rates.now c.loop-rate.rate-index c.rate-item.result _ _ _ c.loop-rate-test.true c.rate-item.is (ap (λ (digits : List ℕ). record { prefix = digits; credits = c.rate-item.result.credits }) text)
          c.push_reserved.ensures.items c.loop-rate.invariant.0,
      let room = c.loop-rate.invariant.1 in let same = c.push_reserved.ensures.capacity in omega arith,
    )

pub returns : goal.returns
returns c = all_pushed price_of c.args.rates.now c.loop-rate.rate-index _ c.loop-rate-test.false c.loop-rate.invariant.0

pub invariant_of-result : goal.invariant_of-result
invariant_of-result c =
    let rates = c.args.rates.now in
    let order = c.in_ok-order.order.items in
    let same : prices_of c.loop-rate.copies.items ≡ prices_of rates = all_pushed price_of rates c.loop-rate.rate-index _ c.loop-rate-test.false c.loop-rate.invariant.0 in
    subst (λ (ps : List Price). TariffStands ps order) (sym same)
    (record { tariff = c.requires; index = subst (λ (n : ℕ). IsIndex (prices_of rates) order n) (sym (length-map rates price_of)) c.in_ok-order.ensures })
