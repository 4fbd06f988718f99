-- A turn of reading.
use Rattle.std.specs.Prelude.{◌≡◌, ℕ, ◌+◌, ◌*◌, ◌-◌, ◌^◌, ◌≤◌, ◌⊎◌, List, [], length, Option, Some, None, Bool, true, false}
use Rattle.std.specs.declared.io.ErrorKind.{ErrorKind}
use Rattle.std.specs.declared.io.ErrorKind.TheVariants as kind

-- a read that failed so gave nothing, and is tried again
abbrev pub gives_nothing : ErrorKind → Bool
gives_nothing kind.WouldBlock = true
gives_nothing kind.TimedOut = true
gives_nothing kind.Interrupted = true
gives_nothing _ = false

-- the octets that one turn reads at most
abbrev pub most_piece : ℕ
most_piece = 65536

-- a reader that tells its octets gave so many at most
abbrev pub GaveAtMost : ℕ → Option (List ℕ) → Option (List ℕ) → Type 0
GaveAtMost n None after = Unit {0}
GaveAtMost n (Some xs) None = ⊥
GaveAtMost n (Some xs) (Some ys) = length xs ≤ length ys + n

-- a reader that tells its octets has none left
abbrev pub IsSpent : Option (List ℕ) → Type 0
IsSpent None = ⊥
IsSpent (Some xs) = xs ≡ []

-- each turn took an octet at least or met an error; the count of errors stops at its greatest value
abbrev pub Passed : ℕ → Option (List ℕ) → Option (List ℕ) → ℕ → ℕ → Type 0
Passed turns None after old new = Unit {0}
Passed turns (Some xs) None old new = ⊥
Passed turns (Some xs) (Some ys) old new = (old + turns + length ys ≤ new + length xs) ⊎ (2 ^ 64 - 1 ≤ new)

-- it read in so many turns at most, and in no fewer where `all` holds
pub record Turned (turns : ℕ) (all : Type 0) (before after : Option (List ℕ)) (old new : ℕ) : Type 0 where
  pub most : GaveAtMost (most_piece * turns) before after
  pub passed : all → Passed turns before after old new
