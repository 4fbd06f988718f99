-- What the end of a message says of it.
use Rattle.std.specs.Prelude.{◌≡◌, ℕ, ◌<◌, ◌≤◌, List, length, map, Option, Some, None, slice_get}
use Rattle.std.specs.List.{AllByRecursion}
use Rattle.sms_core.specs.Replies.{IsRetried, AreAllowed, outcome_of}
use Rattle.sms_core.specs.Replies as core
use Rattle.sms_pdu.specs.declared.reply.Reply.{Reply}
use Rattle.sms_segment.specs.declared.part.Part.{Part}
use Rattle.sms_message.specs.declared.message.Message.{Message}
use Rattle.sms_message.specs.declared.rules.Rules.{Rules}
use Rattle.sms_message.specs.declared.ends.Outcome.TheVariants.{Unanswered}
use Rattle.sms_message.specs.declared.ends.Attempt.{Attempt}
use Rattle.sms_message.specs.declared.ends.SegmentEnd.{SegmentEnd}
use Rattle.sms_message.specs.declared.ends.MessageEnd.{MessageEnd}
use Rattle.sms_message.specs.declared.ends.MessageResult.{MessageResult}
use Rattle.sms_message.specs.declared.ends.MessageResult.TheVariants.{Sent, Refused}
use Rattle.sms_message.specs.Ends.{phase_of}
use Rattle.sms_message.specs.Submits.{HasAddresses, message_parts}
use Rattle.sms_message.specs.Admission.{IsKnown, IsShort, IsRefusalOf}

-- an attempt's answer, as the core reads it
abbrev pub read_reply : Option Reply → Option core.Reply
read_reply None = None
read_reply (Some r) = Some (record { status = r.status; nack = r.nack })

abbrev pub answers : {S : Type 0} → List (Attempt S) → List (Option core.Reply)
answers attempts = map (λ a. read_reply a.reply) attempts

-- the attempts are allowed, and the outcome is theirs
pub record IsSettled {S : Type 0} (most : ℕ) (s : SegmentEnd S) : Type 0 where
  pub allowed : AreAllowed most (answers s.attempts)
  pub outcome : outcome_of (answers s.attempts) ≡ phase_of s.outcome

-- it waits to be sent, or to be sent again; its credits are reserved, as those of one without an answer
pub record IsWaiting {S : Type 0} (most : ℕ) (s : SegmentEnd S) : Type 0 where
  pub outcome : s.outcome ≡ Unanswered
  pub retried : AllByRecursion IsRetried (answers s.attempts)
  pub fewer : length (answers s.attempts) < most

-- what evidence says of a part of a message that was sent with this number
abbrev pub Says : Type 0 → Type 1
Says S = Rules → Message → Part → ℕ → S → Type 0

-- the attempt's evidence says so of the part
abbrev pub IsSentBy : {S : Type 0} → Says S → Rules → Message → ℕ → Attempt S → Type 0
IsSentBy says rules m p a = (part : Part) × (slice_get (message_parts rules m) p ≡ Some part) × says rules m part a.number a.sent

-- no check stands against the message, and it has a segment for each of its parts
pub record HasSegments {S : Type 0} (rules : Rules) (accounts : ℕ) (m : Message) (segments : List (SegmentEnd S)) : Type 0 where
  pub known : IsKnown accounts m.account
  pub addresses : HasAddresses m
  pub short : IsShort rules m
  pub parts : length segments ≡ length (message_parts rules m)

abbrev pub IsResultOf : {S : Type 0} → Rules → ℕ → Message → MessageResult S → Type 0
IsResultOf rules accounts m (Sent segments) = HasSegments rules accounts m segments
IsResultOf rules accounts m (Refused refusal) = IsRefusalOf rules accounts m refusal

-- an end for each message that was begun, in order
pub record AreEnds {S : Type 0} (rules : Rules) (accounts : ℕ) (ms : List Message) (es : List (MessageEnd S)) : Type 0 where
  pub within : length es ≤ length ms
  pub each : (k : ℕ) (m : Message) (e : MessageEnd S) → slice_get ms k ≡ Some m → slice_get es k ≡ Some e → (e.index ≡ m.index) × IsResultOf rules accounts m e.result
