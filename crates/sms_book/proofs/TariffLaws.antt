-- The laws of what a segment costs.
use Rattle.std.proofs.Common.{◌≡◌, ◌⊎◌, ℕ, ◌<◌, ◌≤◌, List, length, Option, None, Some, refl, sym, ap, ◌∙◌, subst, inl, inr}
use Rattle.std.specs.Option.{option_map_or}
use Rattle.sms_book.specs.Tariffs.{Price, price_at, digits_of, IsLongest, Begins, longest}
use Rattle.sms_book.specs.TariffLaws.{HasRate, CostIsOfTheLongest, CostIgnoresOrder}
use Rattle.sms_book.proofs.Longest.{IsTop, IsBest, best_of, found_cost, none_cost}

-- the rate that the definition picks is the longest at its place
place_of_top : (prices : List Price) (digits : List ℕ) (p : Price) (t : IsTop prices digits p) → IsLongest prices digits t.place
place_of_top prices digits p t = record {
  there = t.there;
  begins = subst (λ (x : Price). Begins digits x.prefix) (sym t.is) t.begins;
  most = λ other low b. subst (λ (x : Price). length (price_at prices other).prefix ≤ length x.prefix) (sym t.is) (t.most other low b);
}

pub cost_is_of_the_longest : CostIsOfTheLongest
cost_is_of_the_longest prices destination t = by_best (longest prices digits) (best_of prices digits)
  where
    digits : List ℕ
    digits = digits_of destination

    by_best : (o : Option Price) → IsBest prices digits o
        → ((place : ℕ) × IsLongest prices digits place × (option_map_or (λ p. p.credits) (longest prices digits) 1 ≡ (price_at prices place).credits))
        ⊎ (((place : ℕ) → place < length prices → ¬ (Begins digits (price_at prices place).prefix)) × (option_map_or (λ p. p.credits) (longest prices digits) 1 ≡ 1))
    by_best None best = inr (best, none_cost prices digits best)
    by_best (Some p) top = let l = place_of_top prices digits p top in inl (top.place, l, found_cost prices digits top.place t l)

-- the longest of one list is, at its place there, the longest of another with the same rates
module _ (prices others : List Price) (digits : List ℕ) (same : (p : Price) → HasRate others p → HasRate prices p) where
  moved : (place other : ℕ) → other < length others → price_at others other ≡ price_at prices place → IsLongest prices digits place → IsLongest others digits other
  moved place other low is l = record {
    there = low;
    begins = subst (λ (x : Price). Begins digits x.prefix) (sym is) l.begins;
    most = λ k k-low b.
        let h = same (price_at others k) record { place = k; there = k-low; is = refl } in
        let most = l.most h.place h.there (subst (λ (x : Price). Begins digits x.prefix) (sym h.is) b) in
        subst (λ (x : Price × Price). length x.0.prefix ≤ length x.1.prefix) (λ i. (h.is i, sym is i)) most;
  }

  none_there : ((place : ℕ) → place < length prices → ¬ (Begins digits (price_at prices place).prefix)) → (k : ℕ) → k < length others → ¬ (Begins digits (price_at others k).prefix)
  none_there none k low b = let h = same (price_at others k) record { place = k; there = low; is = refl } in none h.place h.there (subst (λ (x : Price). Begins digits x.prefix) (sym h.is) b)

pub cost_ignores_order : CostIgnoresOrder
cost_ignores_order prices others destination t u same = by_best (longest prices digits) (best_of prices digits)
  where
    digits : List ℕ
    digits = digits_of destination

    back : (p : Price) → HasRate others p → HasRate prices p
    back p = (same p).1

    by_best : (o : Option Price) → IsBest prices digits o → option_map_or (λ p. p.credits) (longest prices digits) 1 ≡ option_map_or (λ p. p.credits) (longest others digits) 1
    by_best None best = none_cost prices digits best ∙ sym (none_cost others digits (none_there prices others digits back best))
    by_best (Some p) top =
        let l = place_of_top prices digits p top in
        let h = (same (price_at prices top.place)).0 record { place = top.place; there = top.there; is = refl } in
        found_cost prices digits top.place t l ∙ ap (λ (x : Price). x.credits) (sym h.is) ∙ sym (found_cost others digits h.place u (moved prices others digits back top.place h.place h.there h.is l))
