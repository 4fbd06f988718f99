-- In which order the segments of a call are sent for the first time.
use Rattle.std.specs.Prelude.{◌≡◌, ℕ, ◌+◌, ◌<◌, ◌≤◌, ◌⊎◌, List, length, Some, slice_get}
use Rattle.sms_worker.specs.Types.{Attempt, MessageEnd, SegmentEnd}
use Rattle.sms_worker.specs.declared.state.open.Open.{Open}
use Rattle.sms_worker.specs.declared.state.open.SegmentPlace.{SegmentPlace}
use Rattle.sms_worker.specs.declared.state.queue.Queue.{Queue}
use Rattle.sms_worker.specs.Apart.{IsAttempt}
use Rattle.sms_message.specs.Ends.{segment_at}
use Rattle.sms_worker.specs.Queues.{first_in}
use Rattle.sms_worker.specs.PendingState.{PendingState, pending_at, link_of}

-- part p of message j stands before part q of message k
abbrev pub IsBefore : ℕ → ℕ → ℕ → ℕ → Type 0
IsBefore j p k q = (j < k) ⊎ ((j ≡ k) × (p < q))

-- of any two segments that were sent, the one that stands before was sent first: its first attempt has the lower number
abbrev pub FirstsRise : List MessageEnd → Type 0
FirstsRise es = (j p k q : ℕ) (a b : Attempt) → IsBefore j p k q → IsAttempt es j p 0 a → IsAttempt es k q 0 b → a.number < b.number

-- the segment was sent
abbrev pub WasSent : List MessageEnd → SegmentPlace → Type 0
WasSent es place = (a : Attempt) × IsAttempt es place.message place.part 0 a

-- no link leads on from there, or to a segment that was sent
abbrev pub LeadsToSent : List MessageEnd → List PendingState → Type 0
LeadsToSent es pending = (from place : SegmentPlace) → (link_of (pending_at pending from)).next ≡ Some place → WasSent es place

-- each open request is one for a segment that was sent
abbrev pub AreSent : List MessageEnd → List Open → Type 0
AreSent es opened = (i : ℕ) (o : Open) → slice_get opened i ≡ Some o → WasSent es o.place

-- the order so far. Of the last message nothing was sent behind its next part, and what waits in the queues or is open was sent before
pub record InOrder (es : List MessageEnd) (next : ℕ) (opened : List Open) (qs : List Queue) (pending : List PendingState) : Type 0 where
  pub rise : FirstsRise es
  pub behind : (k p : ℕ) (a : Attempt) → IsAttempt es k p 0 a → k + 1 ≡ length es → p ≤ next
  pub heads : (k : ℕ) (place : SegmentPlace) → first_in qs k ≡ Some place → WasSent es place
  pub links : LeadsToSent es pending
  pub opens : AreSent es opened

-- the segment is the next of the last message
pub record IsNext (es : List MessageEnd) (next : ℕ) (place : SegmentPlace) : Type 0 where
  pub last : length es ≡ place.message + 1
  pub part : place.part ≡ next

-- the segment has an end
abbrev pub IsThere : List MessageEnd → SegmentPlace → Type 0
IsThere es place = (s : SegmentEnd) × (segment_at es place.message place.part ≡ Some s)

-- a part of the last message wasn't tried yet
abbrev pub HasNext : List MessageEnd → ℕ → Type 0
HasNext es next = (place : SegmentPlace) × IsNext es next place × IsThere es place

-- its turn has come: it was sent before, or it is the next
abbrev pub HasTurn : List MessageEnd → ℕ → SegmentPlace → Type 0
HasTurn es next place = WasSent es place ⊎ IsNext es next place
