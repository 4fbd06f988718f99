-- The reader's seat: as it was at first, and as it is.
use Rattle.std.specs.Prelude.{ℕ, List}
use Rattle.sms_window.specs.SeatState.{SeatState}

pub record Held : Type 0 where
  pub began : SeatState
  pub now : SeatState
  -- the slots that are held back, in the order in which they were claimed
  pub claimed : List ℕ
  -- the most slots that it may hold back
  pub most : ℕ
  -- how many answers in a row were good
  pub good : ℕ
