-- The places of a tariff's rates in the order of their prefixes, in which a prefix is found by halving.
use Rattle.std.specs.Prelude.{◌≡◌, ℕ, ◌<◌, ◌≤◌, List, length, slice_index, take}
use Rattle.std.specs.Cmp.Lexicographic.{slice_cmp}
use Rattle.std.specs.Ordering.{nat_cmp}
use Rattle.std.specs.declared.cmp.Ordering.TheVariants.{Less}
use Rattle.sms_book.specs.Tariffs.{Price, price_at, IsTariff}

-- the prefix of the rate whose place stands at i
abbrev pub prefix_in : List Price → List ℕ → ℕ → List ℕ
prefix_in prices order i = (price_at prices (slice_index order i)).prefix

-- one prefix comes before another
abbrev pub Before : List ℕ → List ℕ → Type 0
Before a b = slice_cmp nat_cmp a b ≡ Less

-- the place stands among those in order
pub record IsAmong (order : List ℕ) (place : ℕ) : Type 0 where
  pub at : ℕ
  pub within : at < length order
  pub is : slice_index order at ≡ place

-- these are the first n places, by their prefixes
pub record IsIndex (prices : List Price) (order : List ℕ) (n : ℕ) : Type 0 where
  pub places : (i : ℕ) → i < length order → slice_index order i < n
  pub rising : (i j : ℕ) → i < j → j < length order → Before (prefix_in prices order i) (prefix_in prices order j)
  pub all : (place : ℕ) → place < n → IsAmong order place

-- the rate at this place is among those in order, and has this prefix
pub record IsFound (prices : List Price) (order : List ℕ) (prefix : List ℕ) (place : ℕ) : Type 0 where
  pub at : ℕ
  pub within : at < length order
  pub is : slice_index order at ≡ place
  pub same : (price_at prices place).prefix ≡ prefix

-- a prefix that isn't there belongs at this place
pub record IsRoom (prices : List Price) (order : List ℕ) (prefix : List ℕ) (at : ℕ) : Type 0 where
  pub within : at ≤ length order
  pub below : (i : ℕ) → i < at → Before (prefix_in prices order i) prefix
  pub above : (i : ℕ) → at ≤ i → i < length order → Before prefix (prefix_in prices order i)

-- so many octets at the front of two lists are the same, and no more
pub record IsShared (prefix digits : List ℕ) (n : ℕ) : Type 0 where
  pub within : n ≤ length prefix
  pub inside : n ≤ length digits
  pub same : take n prefix ≡ take n digits
  pub most : (k : ℕ) → k ≤ length prefix → k ≤ length digits → take k prefix ≡ take k digits → k ≤ n

-- what every tariff keeps
pub record TariffStands (prices : List Price) (order : List ℕ) : Type 0 where
  pub tariff : IsTariff prices
  pub index : IsIndex prices order (length prices)
