-- How a request is found by its name: from link to link, each of which leads to the place of a request or nowhere.
-- A search begins at one of the first 2,048 links, which the lowest eleven bits of the name choose. A request that has
-- another name sends it on to one of eight links of its own, which the next three bits choose, and so on.
use Rattle.std.specs.Prelude.{None, ◌≡◌, ◌≢◌, ℕ, zero, suc, ◌+◌, ◌*◌, ◌/◌, ◌%◌, ◌^◌, ◌<◌, ◌≤◌, List, map, length, slice_index, slice_index_or}
use Rattle.sms_core.specs.declared.request.Request.{Request}
use Rattle.sms_core.specs.declared.requests.Gap.{Gap}
use Rattle.sms_core.specs.State.{find_request}

abbrev pub names : List Request → List ℕ
names rs = map (λ r. r.id) rs

-- leads to no place
abbrev pub nowhere : ℕ
nowhere = 18446744073709551615

-- where a link leads
abbrev pub lead : List ℕ → ℕ → ℕ
lead links link = slice_index_or links link nowhere

-- what is left of a name after its lowest eleven bits and some turns, each of which takes three
abbrev pub rest_of : ℕ → ℕ → ℕ
rest_of zero id = id / 2048
rest_of (suc turns) id = rest_of turns id / 8

-- the link that the search for a name has reached after some turns, and where it leads
abbrev pub link_at : (ℕ → ℕ) → ℕ → ℕ → ℕ
link_at leads zero id = id % 2048
link_at leads (suc turns) id = 8 * leads (link_at leads turns id) + 2048 + rest_of turns id % 8

abbrev pub place_at : (ℕ → ℕ) → ℕ → ℕ → ℕ
place_at leads turns id = leads (link_at leads turns id)

-- a place below n is reached after one number of turns, by names that agree in the bits that these took
abbrev pub IsReachedOnce : ℕ → (ℕ → ℕ) → Type 0
IsReachedOnce n leads =
    (t id u other : ℕ) → place_at leads t id < n → place_at leads t id ≡ place_at leads u other
    → (t ≡ u) × (rest_of t id ≡ rest_of u other → id ≡ other)

-- the most turns: eleven bits, and seven times three, are what a name has
abbrev pub most_turns : ℕ
most_turns = 7

-- the search for this name comes to this link
pub record Visits (leads : ℕ → ℕ) (id link : ℕ) : Type 0 where
  pub turns : ℕ
  pub few : turns ≤ most_turns
  pub there : link_at leads turns id ≡ link

-- the search for this name comes to a link that leads to this place
pub record Reaches (leads : ℕ → ℕ) (id place : ℕ) : Type 0 where
  pub link : ℕ
  pub way : Visits leads id link
  pub there : leads link ≡ place

-- the links of requests of these names
pub record AreLinks (ids links : List ℕ) : Type 0 where
  pub count : length links ≡ 8 * length ids + 2048
  pub short : (place : ℕ) → slice_index ids place < 2 ^ 32
  pub distinct : (p q : ℕ) → p < length ids → q < length ids → slice_index ids p ≡ slice_index ids q → p ≡ q
  pub real : (link : ℕ) → lead links link ≢ nowhere → lead links link < length ids
  pub once : IsReachedOnce (length ids) (lead links)
  pub reached : (place : ℕ) → place < length ids → Reaches (lead links) (slice_index ids place) place

-- where the request of a new name goes: the search for the name ends at a link that leads nowhere
pub record IsGap (rs : List Request) (links : List ℕ) (gap : Gap) : Type 0 where
  pub new : find_request gap.id rs ≡ None
  pub inside : gap.link < length links
  pub free : lead links gap.link ≡ nowhere
  pub way : Visits (lead links) gap.id gap.link
