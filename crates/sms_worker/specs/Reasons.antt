-- Why parts and messages were not sent.
use Rattle.std.specs.Prelude.{◌≡◌, ◌⊎◌, ◌<◌, ◌++◌, ◌∷◌, [], ℕ, length, Bool, IsSome, IsTrue, List, Option, Some, None, slice_get}
use Rattle.std.specs.List.{AllByRecursion}
use Rattle.sms_core.specs.Replies.{IsRetried}
use Rattle.sms_message.specs.declared.ends.MessageRefusal.{MessageRefusal}
use Rattle.sms_message.specs.declared.ends.MessageRefusal.TheVariants.{NoAccount, NoCredit, TooLong, BadAddress, BindClosed, OutOfMemory}
use Rattle.sms_message.specs.declared.ends.MessageResult.TheVariants as not_sent
use Rattle.sms_message.specs.declared.ends.Outcome.TheVariants.{Refused, Unsent}
use Rattle.sms_message.specs.declared.message.Message.{Message}
use Rattle.sms_message.specs.Ends.{segment_at}
use Rattle.sms_message.specs.Results.{answers}
use Rattle.sms_worker.specs.declared.state.reasons.Unlisted.{Unlisted}
use Rattle.sms_worker.specs.declared.state.reasons.UnsentReason.{UnsentReason}
use Rattle.sms_worker.specs.declared.state.reasons.UnsentReason.TheVariants as reason
use Rattle.sms_worker.specs.declared.steps.give_up.GiveUpReason.{GiveUpReason}
use Rattle.sms_worker.specs.declared.steps.parts.NoMessageMemory.{NoMessageMemory}
use Rattle.sms_worker.specs.Types.{MessageEnd, SegmentEnd}

-- what was listed, and the evidence that memory was refused for more, if it was
pub record ReasonState : Type 0 where
  pub listed : List UnsentReason
  pub unlisted : Option Unlisted

abbrev pub IsListed : UnsentReason → ReasonState → Type 0
IsListed x r = (i : ℕ) × (slice_get r.listed i ≡ Some x)

-- one more reason is listed, or memory was refused for it
abbrev pub Lists : UnsentReason → ReasonState → ReasonState → Type 0
Lists x old new = (new ≡ record old { listed = old.listed ++ x ∷ [] }) ⊎ ((evidence : Unlisted) × (new ≡ record old { unlisted = Some evidence }))

-- the part of the message with this index was given up for a reason that is listed, or for which memory was refused
abbrev pub HasReason : ReasonState → ℕ → ℕ → Type 0
HasReason r index p = IsSome r.unlisted ⊎ ((why : GiveUpReason) × IsListed (reason.Part (record { message = index; part = p; why = why })) r)

-- memory was refused for the message with this index
abbrev pub LackedMemory : ReasonState → ℕ → Type 0
LackedMemory r index = IsSome r.unlisted ⊎ ((evidence : NoMessageMemory) × (evidence.message ≡ index) × IsListed (reason.Message evidence) r)

-- each attempt had a retry reply, and there were fewer than there may be
pub record HasTriesLeft (most : ℕ) (s : SegmentEnd) : Type 0 where
  pub retried : AllByRecursion IsRetried (answers s.attempts)
  pub fewer : length (answers s.attempts) < most

-- the segment was given up: it is unsent, or refused with tries left
abbrev pub WasGivenUp : ℕ → SegmentEnd → Type 0
WasGivenUp most s = (s.outcome ≡ Unsent) ⊎ ((s.outcome ≡ Refused) × HasTriesLeft most s)

-- each part that was given up was so for a reason, or the bind was closed; memory was refused for each message that is refused for lack of it
pub record HaveReasons (most : ℕ) (ms : List Message) (closed : Bool) (r : ReasonState) (es : List MessageEnd) : Type 0 where
  pub parts : (k p : ℕ) (m : Message) (s : SegmentEnd) → slice_get ms k ≡ Some m → segment_at es k p ≡ Some s → WasGivenUp most s → IsTrue closed ⊎ HasReason r m.index p
  pub messages : (k : ℕ) (m : Message) (e : MessageEnd) → slice_get ms k ≡ Some m → slice_get es k ≡ Some e → e.result ≡ not_sent.Refused OutOfMemory → LackedMemory r m.index

-- a message with this index is refused for lack of memory only with evidence that memory was refused for it
abbrev pub RestsOn : ℕ → MessageRefusal → Option NoMessageMemory → Type 0
RestsOn index OutOfMemory None = ⊥
RestsOn index OutOfMemory (Some evidence) = evidence.message ≡ index
RestsOn index NoAccount evidence = Unit {0}
RestsOn index NoCredit evidence = Unit {0}
RestsOn index TooLong evidence = Unit {0}
RestsOn index BadAddress evidence = Unit {0}
RestsOn index BindClosed evidence = Unit {0}
