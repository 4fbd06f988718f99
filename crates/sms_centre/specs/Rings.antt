-- A ring of octets.
use Rattle.std.specs.Prelude.{ℕ, List, [], ◌++◌, drop}

-- how many octets it holds at most, and those that it holds
pub record Held : Type 0 where
  pub room : ℕ
  pub octets : List ℕ

abbrev pub empty : ℕ → Held
empty room = record { room = room; octets = [] }

-- these more after the others
abbrev pub holds_more : Held → List ℕ → Held
holds_more h more = record { room = h.room; octets = h.octets ++ more }

-- without the first `n`
abbrev pub holds_less : Held → ℕ → Held
holds_less h n = record { room = h.room; octets = drop n h.octets }
