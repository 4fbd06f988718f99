-- What a segment costs, in the words of a tariff.
use Rattle.std.specs.Prelude.{◌≡◌, ◌⊎◌, ℕ, ◌<◌, ◌↔◌, List, length}
use Rattle.sms_book.specs.Tariffs.{Price, price_at, digits_of, cost_of, IsTariff, IsLongest, Begins}

-- a rate has its place among these
pub record HasRate (prices : List Price) (p : Price) : Type 0 where
  pub place : ℕ
  pub there : place < length prices
  pub is : price_at prices place ≡ p

-- it is the credits of a rate with whose prefix the destination's digits begin, where none with a longer prefix fits;
-- and 1 where none fits
abbrev pub CostIsOfTheLongest : Type 0
CostIsOfTheLongest = (prices : List Price) (destination : List ℕ) → IsTariff prices
    → ((place : ℕ) × IsLongest prices (digits_of destination) place × (cost_of prices destination ≡ (price_at prices place).credits))
    ⊎ (((place : ℕ) → place < length prices → ¬ (Begins (digits_of destination) (price_at prices place).prefix)) × (cost_of prices destination ≡ 1))

-- it is the same in whatever order the rates are given
abbrev pub CostIgnoresOrder : Type 0
CostIgnoresOrder = (prices others : List Price) (destination : List ℕ) → IsTariff prices → IsTariff others → ((p : Price) → HasRate prices p ↔ HasRate others p)
    → cost_of prices destination ≡ cost_of others destination
