-- What one turn of a call does.
use Rattle.std.specs.Prelude.{◌≡◌, ℕ, zero, suc, ◌⊎◌, Bool, IsTrue, true, false, length}
use Rattle.sms_worker.specs.Expiry.{Expires}
use Rattle.sms_worker.specs.Replies.{AllApplied}
use Rattle.sms_worker.specs.RunState.{RunState, HasNothingToSend}
use Rattle.sms_worker.specs.Start.{Start}
use Rattle.sms_worker.specs.Sweeps.{SettledTo}
use Rattle.sms_worker.specs.Turns.{Starts}

-- The steps of a turn, in order: replies are replies and applied, the line is looked at, requests expire; and where the line isn't
-- down what is to be sent is started, else all that waits is given up. `again` is whether a turn is to follow
pub record TakesTurn (start : Start) (again : Bool) (old new : RunState) : Type 0 where
  pub any_reply : Bool
  pub replies : RunState
  pub hears : AllApplied start.rules any_reply old replies
  pub down : Bool
  pub looked : RunState
  pub looks : looked ≡ record replies { closed = down }
  pub stays : IsTrue replies.closed → IsTrue down
  pub now : ℕ
  pub any_expired : Bool
  pub answered : ℕ
  pub left : RunState
  pub expires : Expires start.rules.answer_ms now down any_expired answered looked left
  pub any_started : Bool
  pub starts : down ≡ false → Starts start any_started left new
  pub sweeps : IsTrue down → SettledTo start.rules.policy.attempts (length new.ends) 0 new.ends
  -- it is the last one only where it did nothing of this, and nothing is left to do
  pub idle : again ≡ false → (any_reply ≡ false) × (any_expired ≡ false) × (any_started ≡ false)
  pub done : again ≡ false → (length new.opened ≡ 0) × (IsTrue down ⊎ HasNothingToSend start.messages new)

-- so many turns, behind each of which another was to follow
abbrev pub AreTurns : Start → ℕ → RunState → RunState → Type 0
AreTurns start zero old new = new ≡ old
AreTurns start (suc n) old new = (mid : RunState) × AreTurns start n old mid × TakesTurn start true mid new

-- All turns of a call: behind so many the last one, or as many as the rules say, and then the line is taken as down
pub record TakesTurns (start : Start) (old new : RunState) : Type 0 where
  pub count : ℕ
  pub before : RunState
  pub each : AreTurns start count old before
  pub rest : TakesTurn start false before new ⊎ ((count ≡ start.rules.turns) × (new ≡ record before { closed = true }))
