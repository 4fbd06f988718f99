-- Why the parts of one message, or the message, were not sent. It says nothing of other messages, so that it holds of ends that are put together with others.
use Rattle.std.specs.Prelude.{◌≡◌, ◌⊎◌, ℕ, List, Some, slice_get}
use Rattle.sms_message.specs.declared.ends.MessageRefusal.TheVariants.{OutOfMemory}
use Rattle.sms_message.specs.declared.ends.MessageResult.TheVariants.{Refused}
use Rattle.sms_message.specs.Ends.{segments_in}
use Rattle.sms_worker.specs.Reasons.{HasReason, LackedMemory, ReasonState, WasGivenUp}
use Rattle.sms_worker.specs.Types.{MessageEnd, SegmentEnd}

-- each part of it that was given up was so for a reason, or the bind was closed; if it is refused for lack of memory, memory was refused for it
pub record HasReasons (most : ℕ) (closed : Type 0) (r : ReasonState) (e : MessageEnd) : Type 0 where
  pub parts : (p : ℕ) (s : SegmentEnd) → slice_get (segments_in e.result) p ≡ Some s → WasGivenUp most s → closed ⊎ HasReason r e.index p
  pub memory : e.result ≡ Refused OutOfMemory → LackedMemory r e.index

-- the same of each of them
abbrev pub AllHaveReasons : ℕ → Type 0 → ReasonState → List MessageEnd → Type 0
AllHaveReasons most closed r es = (k : ℕ) (e : MessageEnd) → slice_get es k ≡ Some e → HasReasons most closed r e
