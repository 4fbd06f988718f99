-- The rate with the longest prefix: what the definition over the list says, and that it is the one that is found.
use Rattle.std.proofs.Common.{◌≡◌, ℕ, zero, suc, ◌<◌, ◌≤◌, List, [], ◌∷◌, ◌++◌, length, take, drop, Option, None, Some, Bool, true, false, refl, sym, ap, ◌∙◌, subst, arith, length-append}
use Rattle.std.specs.Prelude.{slice_index_or, nat_eq, nat_lt, if◌then◌else◌}
use Rattle.std.specs.List.{starts_with}
use Rattle.std.specs.Option.{option_map_or}
use Rattle.std.proofs.lemmas.Slice.Eq.{starts_is}
use Rattle.std.proofs.lemmas.Bool.Decides.{Decides-eqb, nat_tests}
use Rattle.std.proofs.lemmas.List.{get_or-map, length-map}
use native.Mathlib.Decide.{ℕ_discrete, dec_lt}
use mathlib.Core.Logic.{dite}
use Rattle.sms_book.specs.Tariffs.{Price, no_price, price_at, prefixes, IsTariff, Begins, IsLongest, longer, longest}

pub begins_of : (digits prefix : List ℕ) → starts_with nat_eq digits prefix ≡ true → Begins digits prefix
begins_of digits prefix e = (drop (length prefix) digits, (starts_is Decides-eqb digits prefix (starts_with nat_eq digits prefix) refl).0 e)

pub starts_of : (digits prefix : List ℕ) → Begins digits prefix → starts_with nat_eq digits prefix ≡ true
starts_of digits prefix b = (starts_is Decides-eqb digits prefix (starts_with nat_eq digits prefix) refl).1 b.0 b.1

-- a prefix of the digits is as many of their first ones
front : (p rest : List ℕ) → take (length p) (p ++ rest) ≡ p
front [] rest = refl
front (x ∷ p) rest = ap (λ (l : List ℕ). x ∷ l) (front p rest)

pub begins_take : (digits prefix : List ℕ) → Begins digits prefix → prefix ≡ take (length prefix) digits
begins_take digits prefix b = sym (front prefix b.0) ∙ ap (take (length prefix)) (sym b.1)

pub begins_short : (digits prefix : List ℕ) → Begins digits prefix → length prefix ≤ length digits
begins_short digits prefix b = let l = length-append prefix b.0 in let e = ap length b.1 in omega arith

split : (n : ℕ) (xs : List ℕ) → xs ≡ take n xs ++ drop n xs
split zero xs = refl
split (suc n) [] = refl
split (suc n) (x ∷ xs) = ap (λ (l : List ℕ). x ∷ l) (split n xs)

pub take_begins : (digits prefix : List ℕ) (n : ℕ) → prefix ≡ take n digits → Begins digits prefix
take_begins digits prefix n e = (drop n digits, split n digits ∙ ap (λ (l : List ℕ). l ++ drop n digits) (sym e))

-- a rate of the list with whose prefix the digits begin, and none with a longer one
pub record IsTop (prices : List Price) (digits : List ℕ) (p : Price) : Type 0 where
  pub place : ℕ
  pub there : place < length prices
  pub is : price_at prices place ≡ p
  pub begins : Begins digits p.prefix
  pub most : (other : ℕ) → other < length prices → Begins digits (price_at prices other).prefix → length (price_at prices other).prefix ≤ length p.prefix

abbrev pub IsBest : List Price → List ℕ → Option Price → Type 0
IsBest prices digits None = (k : ℕ) → k < length prices → ¬ (Begins digits (price_at prices k).prefix)
IsBest prices digits (Some p) = IsTop prices digits p

module _ (digits : List ℕ) (q : Price) (ps : List Price) where
  none_front : ¬ (Begins digits q.prefix) → ((k : ℕ) → k < length ps → ¬ (Begins digits (price_at ps k).prefix)) → (k : ℕ) → k < length (q ∷ ps) → ¬ (Begins digits (price_at (q ∷ ps) k).prefix)
  none_front not rest zero low = not
  none_front not rest (suc k) low = rest k (omega arith)

  most_front : (n : ℕ) → (Begins digits q.prefix → length q.prefix ≤ n) → ((k : ℕ) → k < length ps → Begins digits (price_at ps k).prefix → length (price_at ps k).prefix ≤ n)
      → (k : ℕ) → k < length (q ∷ ps) → Begins digits (price_at (q ∷ ps) k).prefix → length (price_at (q ∷ ps) k).prefix ≤ n
  most_front n here rest zero low = here
  most_front n here rest (suc k) low = rest k (omega arith)

  first_top : Begins digits q.prefix → ((k : ℕ) → k < length ps → Begins digits (price_at ps k).prefix → length (price_at ps k).prefix ≤ length q.prefix) → IsTop (q ∷ ps) digits q
  first_top begins rest = record { place = 0; there = omega arith; is = refl; begins = begins; most = most_front (length q.prefix) (λ _. omega arith) rest }

  later_top : (p : Price) → IsTop ps digits p → (Begins digits q.prefix → length q.prefix ≤ length p.prefix) → IsTop (q ∷ ps) digits p
  later_top p t here = record { place = suc t.place; there = (let l = t.there in omega arith); is = t.is; begins = t.begins; most = most_front (length p.prefix) here t.most }

  by_length : (p : Price) (b : Bool) → b ≡ nat_lt (length q.prefix) (length p.prefix) → Begins digits q.prefix → IsTop ps digits p → IsTop (q ∷ ps) digits (if b then p else q)
  by_length p true e begins t = later_top p t (λ _. let l : length q.prefix < length p.prefix = grind (arith, nat_tests) in omega arith)
  by_length p false e begins t = first_top begins (λ k low b. let l : length p.prefix ≤ length q.prefix = grind (arith, nat_tests) in let m = t.most k low b in omega arith)

  by_front : (b : Bool) → starts_with nat_eq digits q.prefix ≡ b → (o : Option Price) → IsBest ps digits o → IsBest (q ∷ ps) digits (if b then Some (longer q o) else o)
  by_front true e None best = first_top (begins_of digits q.prefix e) (λ k low b. absurd (best k low b))
  by_front true e (Some p) best = by_length p (nat_lt (length q.prefix) (length p.prefix)) refl (begins_of digits q.prefix e) best
  by_front false e None best = none_front (λ b. let t = starts_of digits q.prefix b in absurd (cc)) best
  by_front false e (Some p) best = later_top p best (λ b. let t = starts_of digits q.prefix b in absurd (cc))

pub best_of : (prices : List Price) (digits : List ℕ) → IsBest prices digits (longest prices digits)
best_of [] digits = λ k low. absurd (omega arith)
best_of (q ∷ ps) digits = by_front digits q ps (starts_with nat_eq digits q.prefix) refl (longest ps digits) (best_of ps digits)

-- two places of a tariff with one prefix are one
name_at : (prices : List Price) (k : ℕ) → k < length prices → slice_index_or (prefixes prices) k [] ≡ (price_at prices k).prefix
name_at prices k low = get_or-map (λ (p : Price). p.prefix) prices k no_price [] low

pub apart : (prices : List Price) (a b : ℕ) → IsTariff prices → a < b → b < length prices → (price_at prices a).prefix ≡ (price_at prices b).prefix → ⊥
apart prices a b t low there same =
    (t.good b there).apart a record {
      before = low;
      there = let l = length-map prices (λ (p : Price). p.prefix) in omega arith;
      same = name_at prices a (omega arith) ∙ same ∙ sym (name_at prices b there);
    }

one_place : (prices : List Price) (a b : ℕ) → IsTariff prices → a < length prices → b < length prices → (price_at prices a).prefix ≡ (price_at prices b).prefix → a ≡ b
one_place prices a b t low-a low-b same = dite (ℕ_discrete a b)
    (λ is. is)
    (λ ne. dite (dec_lt a b) (λ low. absurd (apart prices a b t low low-b same)) (λ no. absurd (apart prices b a t (omega arith) low-a (sym same))))

-- what is found is what the definition says
pub found_cost : (prices : List Price) (digits : List ℕ) (place : ℕ) → IsTariff prices → IsLongest prices digits place → option_map_or (λ p. p.credits) (longest prices digits) 1 ≡ (price_at prices place).credits
found_cost prices digits place t l = by_best (longest prices digits) (best_of prices digits)
  where
    by_best : (o : Option Price) → IsBest prices digits o → option_map_or (λ p. p.credits) o 1 ≡ (price_at prices place).credits
    by_best None best = absurd (best place l.there l.begins)
    by_best (Some p) top =
        let mine : Begins digits (price_at prices top.place).prefix = subst (λ (x : Price). Begins digits x.prefix) (sym top.is) top.begins in
        let size = ap (λ (x : Price). length x.prefix) top.is in
        let up = top.most place l.there l.begins in
        let down = l.most top.place top.there mine in
        let long : length (price_at prices top.place).prefix ≡ length (price_at prices place).prefix = omega arith in
        let same : (price_at prices top.place).prefix ≡ (price_at prices place).prefix =
        begins_take digits _ mine ∙ ap (λ (n : ℕ). take n digits) long ∙ sym (begins_take digits _ l.begins) in
        let one = one_place prices top.place place t top.there l.there same in
        ap (λ (x : Price). x.credits) (sym top.is) ∙ ap (λ (k : ℕ). (price_at prices k).credits) one

pub none_cost : (prices : List Price) (digits : List ℕ) → ((place : ℕ) → place < length prices → ¬ (Begins digits (price_at prices place).prefix)) → option_map_or (λ p. p.credits) (longest prices digits) 1 ≡ 1
none_cost prices digits none = by_best (longest prices digits) (best_of prices digits)
  where
    by_best : (o : Option Price) → IsBest prices digits o → option_map_or (λ p. p.credits) o 1 ≡ 1
    by_best None best = refl
    by_best (Some p) top = absurd (none top.place top.there (subst (λ (x : Price). Begins digits x.prefix) (sym top.is) top.begins))
