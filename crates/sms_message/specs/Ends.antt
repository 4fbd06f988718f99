-- Segment ends within the ends of messages, and sums over them.
use Rattle.std.specs.Prelude.{ℕ, zero, suc, ◌+◌, List, [], ◌∷◌, map, Option, Some, None, slice_get, slice_set}
use Rattle.sms_core.specs.declared.request.Phase.{Phase}
use Rattle.sms_core.specs.declared.request.Phase.TheVariants as phases
use Rattle.sms_core.specs.Numbers.{times}
use Rattle.sms_core.specs.Rows.{part}
use Rattle.sms_message.specs.declared.message.Message.{Message}
use Rattle.sms_message.specs.declared.ends.Outcome.{Outcome}
use Rattle.sms_message.specs.declared.ends.Outcome.TheVariants.{Charged, Refused, Unanswered, Unsent}
use Rattle.sms_message.specs.declared.ends.SegmentEnd.{SegmentEnd}
use Rattle.sms_message.specs.declared.ends.MessageResult.{MessageResult}
use Rattle.sms_message.specs.declared.ends.MessageResult.TheVariants.{Sent, Refused as NotSent}
use Rattle.sms_message.specs.declared.ends.MessageEnd.{MessageEnd}

-- a message that was refused has no segments
abbrev pub segments_in : {S : Type 0} → MessageResult S → List (SegmentEnd S)
segments_in (Sent segments) = segments
segments_in (NotSent refusal) = []

-- the segment end of a part of a message
abbrev pub segment_at : {S : Type 0} → List (MessageEnd S) → ℕ → ℕ → Option (SegmentEnd S)
segment_at [] m p = None
segment_at (e ∷ es) zero p = slice_get (segments_in e.result) p
segment_at (e ∷ es) (suc m) p = segment_at es m p

abbrev pub put_in : {S : Type 0} → MessageResult S → ℕ → SegmentEnd S → MessageResult S
put_in (Sent segments) p s = Sent (slice_set segments p s)
put_in (NotSent refusal) p s = NotSent refusal

abbrev pub with_part : {S : Type 0} → MessageEnd S → ℕ → SegmentEnd S → MessageEnd S
with_part e p s = record e { result = put_in e.result p s }

-- another segment end in that place
abbrev pub put : {S : Type 0} → List (MessageEnd S) → ℕ → ℕ → SegmentEnd S → List (MessageEnd S)
put [] m p s = []
put (e ∷ es) zero p s = with_part e p s ∷ es
put (e ∷ es) (suc m) p s = e ∷ put es m p s

-- f of each segment end and its message, added up
abbrev pub total_in : {S : Type 0} → (SegmentEnd S → ℕ) → List (SegmentEnd S) → ℕ
total_in f [] = 0
total_in f (s ∷ ss) = f s + total_in f ss

abbrev pub total : {S : Type 0} → (Message → SegmentEnd S → ℕ) → List Message → List (MessageEnd S) → ℕ
total f [] es = 0
total f (m ∷ ms) [] = 0
total f (m ∷ ms) (e ∷ es) = total_in (f m) (segments_in e.result) + total f ms es

abbrev pub phase_of : Outcome → Phase
phase_of Charged = phases.Charged
phase_of Refused = phases.Refused
phase_of Unanswered = phases.Unanswered
phase_of Unsent = phases.Unsent

-- what a segment end adds to an account, by the core's sums
abbrev pub credit : {S : Type 0} → (Phase → ℕ → ℕ) → ℕ → Option ℕ → SegmentEnd S → ℕ
credit f i None s = 0
credit f i (Some account) s = part f i (record { account = account; cost = s.cost; phase = phase_of s.outcome })

abbrev pub credits : {S : Type 0} → (Phase → ℕ → ℕ) → ℕ → List Message → List (MessageEnd S) → ℕ
credits f i ms es = total (λ m s. credit f i m.account s) ms es

-- how often n is the number of an attempt
abbrev pub uses : {S : Type 0} → ℕ → SegmentEnd S → ℕ
uses n s = times n (map (λ a. a.number) s.attempts)
