use Rattle.std.proofs.Common.{ℕ, ◌<◌, List, length, sym, refl, ap, ◌∙◌, subst, arith}
use Rattle.std.specs.Option.{option_map_or}
use Rattle.std.proofs.lemmas.List.{length-map}
use Rattle.sms_book.specs.declared.rate.Rate.{Rate}
use Rattle.sms_book.specs.Tariffs.{Price, price_of, prices_of, price_at, digits_of, Begins, IsLongest, longest}
use Rattle.sms_book.proofs.Refusals.{price_there}
use Rattle.sms_book.proofs.Longest.{found_cost, none_cost}
use Rattle.sms_book.proofs.tariff.Tariff.cost.Goals as goal

pub returns-in-Some-clause-is : goal.returns-in-Some-clause-is
returns-in-Some-clause-is c =
    let rates = c.self.inside.rates.items in
    let digits = c.without_plus-digits.result.now in
    let l = subst (λ (x : List Rate). IsLongest (prices_of x) digits c.in-Some.place) c.as_slice.ensures.value c.in-Some.ensures.found in
    let e = c.without_plus-digits.ensures ∙ ap digits_of c.as_bytes.ensures.value in
    let price = price_there rates c.in-Some.place c.index.result.now (let n = length-map rates price_of in let t = l.there in omega arith) c.index.ensures in
    ap (λ (p : Price). p.credits) (sym price) ∙ sym (found_cost (prices_of rates) digits c.in-Some.place c.self.invariant.tariff l)
    ∙ (λ i. option_map_or (λ p. p.credits) (longest (c.self.view_is i) (e i)) 1)

pub returns-in-None-clause-is : goal.returns-in-None-clause-is
returns-in-None-clause-is c =
    let rates = c.self.inside.rates.items in
    let digits = c.without_plus-digits.result.now in
    let none = subst (λ (x : List Rate). (place : ℕ) → place < length x → ¬ (Begins digits (price_at (prices_of x) place).prefix)) c.as_slice.ensures.value (c.in-None.ensures.none refl) in
    let e = c.without_plus-digits.ensures ∙ ap digits_of c.as_bytes.ensures.value in
    sym (none_cost (prices_of rates) digits (λ place low. none place (let n = length-map rates price_of in omega arith)))
    ∙ (λ i. option_map_or (λ p. p.credits) (longest (c.self.view_is i) (e i)) 1)
