-- How a message_id is held (SMPP 3.4 5.2.23).
use Rattle.std.specs.Prelude.{◌≡◌, ◌≤◌, ℕ, List, ◌++◌, ◌-◌, length, take, replicate}

-- a message_id has at most so many octets
abbrev pub longest_id : ℕ
longest_id = 64

-- the octets, and zeros behind them
abbrev pub filled : List ℕ → List ℕ
filled text = text ++ replicate (longest_id - length text) 0

-- of these octets so many are a message_id, and zeros stand behind them
pub record IsKept (len : ℕ) (octets : List ℕ) : Type 0 where
  pub few : len ≤ longest_id
  pub whole : length octets ≡ longest_id
  pub zeros : octets ≡ filled (take len octets)
