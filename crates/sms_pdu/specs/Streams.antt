-- A stream that is worked by its whole frames, and read in pieces.
use Rattle.std.specs.Prelude.{◌≡◌, ℕ, ◌<◌, ◌≤◌, List, ◌++◌, length, take, Option}
use Rattle.std.specs.List.{concat, AllByRecursion}
use Rattle.std.specs.Io.KnownBytes.{Appends, Consumes}
use Rattle.sms_pdu.specs.Frame.{IsFrame, IsRest, IsBad}

-- the frames at the front of the stream, of which P was done, and what is left behind them
pub record Went (P : List (List ℕ) → Type 0) (stream left : List ℕ) : Type 0 where
  pub frames : List (List ℕ)
  pub whole : stream ≡ concat frames ++ left
  pub each : AllByRecursion IsFrame frames
  pub done : P frames

-- how a stretch of reading stands: it goes on; it ended where a frame may still come; with a bad rest; or early, before
-- all whole frames were worked
pub data Stretch : Type 0 where
  going : Stretch
  complete : Stretch
  lost : Stretch
  early : Stretch

-- what that says of what is left, and of what is held for the next read
abbrev pub Leaves : Stretch → List ℕ → List ℕ → Type 0
Leaves going left held = IsRest left × (held ≡ left)
Leaves complete left held = IsRest left × (¬ IsBad left)
Leaves lost left held = IsBad left
Leaves early left held = Unit {0}

-- `got` was read after `begun`, and the front of both was worked
pub record Reads (P : List (List ℕ) → Type 0) (begun : List ℕ) (before after : Option (List ℕ)) (stretch : Stretch) (held : List ℕ) : Type 0 where
  pub got : List ℕ
  pub consumed : Consumes before after got
  pub left : List ℕ
  pub went : Went P (begun ++ got) left
  pub leaves : Leaves stretch left held

-- known bytes grow by some first bytes of bs
abbrev pub SomeAppended : Option (List ℕ) → Option (List ℕ) → List ℕ → Type 0
SomeAppended old new bs = (n : ℕ) × (n ≤ length bs) × Appends old new (take n bs)

-- or by fewer than all of them
abbrev pub FewerAppended : Option (List ℕ) → Option (List ℕ) → List ℕ → Type 0
FewerAppended old new bs = (n : ℕ) × (n < length bs) × Appends old new (take n bs)
