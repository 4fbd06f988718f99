-- What a segment costs, by the prefix of its destination.
use Rattle.std.specs.Prelude.{◌≡◌, ℕ, ◌<◌, ◌≤◌, ◌==◌, nat_lt, nat_eq, All, List, [], ◌∷◌, ◌++◌, length, map, Option, None, Some, slice_index_or, string_bytes, if◌then◌else◌}
use Rattle.std.specs.List.{starts_with}
use Rattle.std.specs.Option.{option_map_or}
use Rattle.std.specs.Char.{IsAsciiDigit}
use Rattle.sms_core.specs.Limits.{largest_cost}
use Rattle.sms_book.specs.declared.rate.Rate.{Rate}
use Rattle.sms_book.specs.declared.error.TariffError.{TariffError}
use Rattle.sms_book.specs.declared.error.TariffError.TheVariants.{TooMany, BadPrefix, BadCredits, Duplicate, OutOfMemory}
use Rattle.sms_book.specs.Limits.{most_rates, most_digits}
use Rattle.sms_book.specs.Openings.{HaveOneName}

-- a rate as contracts see it: the digits of its prefix, and its credits
pub record Price : Type 0 where
  pub prefix : List ℕ
  pub credits : ℕ

abbrev pub price_of : Rate → Price
price_of r = record { prefix = string_bytes r.prefix; credits = r.credits }

abbrev pub prices_of : List Rate → List Price
prices_of rates = map price_of rates

abbrev pub no_price : Price
no_price = record { prefix = []; credits = 1 }

abbrev pub price_at : List Price → ℕ → Price
price_at prices place = slice_index_or prices place no_price

abbrev pub prefixes : List Price → List (List ℕ)
prefixes prices = map (λ p. p.prefix) prices

-- at most 20 digits, and maybe none
abbrev pub IsPrefix : List ℕ → Type 0
IsPrefix octets = (length octets ≤ most_digits) × All IsAsciiDigit octets

abbrev pub IsCredits : ℕ → Type 0
IsCredits credits = (1 ≤ credits) × (credits ≤ largest_cost)

-- the rate at this place is good beside those before it
pub record IsGoodAt (prices : List Price) (place : ℕ) : Type 0 where
  pub prefix : IsPrefix (price_at prices place).prefix
  pub credits : IsCredits (price_at prices place).credits
  pub apart : (first : ℕ) → ¬ (HaveOneName (prefixes prices) first place)

pub record IsTariff (prices : List Price) : Type 0 where
  pub few : length prices ≤ most_rates
  pub good : (place : ℕ) → place < length prices → IsGoodAt prices place

-- the rates aren't too many, and those before this place are good
pub record IsReached (prices : List Price) (place : ℕ) : Type 0 where
  pub few : length prices ≤ most_rates
  pub there : place < length prices
  pub before : (k : ℕ) → k < place → IsGoodAt prices k

-- its prefix is one, but its credits are not
pub record HasBadCredits (prices : List Price) (place at : ℕ) : Type 0 where
  pub is : at ≡ place
  pub prefix : IsPrefix (price_at prices place).prefix
  pub credits : ¬ (IsCredits (price_at prices place).credits)

-- both are good, but an earlier rate has its prefix
pub record IsDuplicate (prices : List Price) (place first second : ℕ) : Type 0 where
  pub is : second ≡ place
  pub prefix : IsPrefix (price_at prices place).prefix
  pub credits : IsCredits (price_at prices place).credits
  pub double : HaveOneName (prefixes prices) first place

-- what is wrong with the rate at this place: its prefix first, then its credits, then that an earlier one has its prefix
abbrev pub IsFault : List Price → ℕ → TariffError → Type 0
IsFault prices place (BadPrefix at) = (at ≡ place) × ¬ (IsPrefix (price_at prices place).prefix)
IsFault prices place (BadCredits at) = HasBadCredits prices place at
IsFault prices place (Duplicate first second) = IsDuplicate prices place first second
IsFault prices place TooMany = ⊥
IsFault prices place OutOfMemory = ⊥

-- why these rates are no tariff: they are too many, or else the first fault
abbrev pub Refuses : List Price → TariffError → Type 0
Refuses prices TooMany = most_rates < length prices
Refuses prices (BadPrefix at) = IsReached prices at × IsFault prices at (BadPrefix at)
Refuses prices (BadCredits at) = IsReached prices at × IsFault prices at (BadCredits at)
Refuses prices (Duplicate first second) = IsReached prices second × IsFault prices second (Duplicate first second)
Refuses prices OutOfMemory = ⊥

-- the digits of a destination, without its leading +
abbrev pub digits_of : List ℕ → List ℕ
digits_of [] = []
digits_of (c ∷ cs) = if c == 43 then cs else c ∷ cs

-- of two rates the one with the longer prefix
abbrev pub longer : Price → Option Price → Price
longer p None = p
longer p (Some q) = if nat_lt (length p.prefix) (length q.prefix) then q else p

-- of the rates with whose prefix the digits begin, the one with the longest
abbrev pub longest : List Price → List ℕ → Option Price
longest [] digits = None
longest (p ∷ ps) digits = if starts_with nat_eq digits p.prefix then Some (longer p (longest ps digits)) else longest ps digits

-- what a segment costs: that rate's credits, and 1 where there is none
abbrev pub cost_of : List Price → List ℕ → ℕ
cost_of prices destination = option_map_or (λ p. p.credits) (longest prices (digits_of destination)) 1

-- the digits begin with the prefix
abbrev pub Begins : List ℕ → List ℕ → Type 0
Begins digits prefix = (rest : List ℕ) × (digits ≡ prefix ++ rest)

-- the digits begin with the prefix of the rate at this place, and with no longer one
pub record IsLongest (prices : List Price) (digits : List ℕ) (place : ℕ) : Type 0 where
  pub there : place < length prices
  pub begins : Begins digits (price_at prices place).prefix
  pub most : (other : ℕ) → other < length prices → Begins digits (price_at prices other).prefix → length (price_at prices other).prefix ≤ length (price_at prices place).prefix
