-- The segments that wait to be sent again, as the links spell them.
use Rattle.std.specs.Prelude.{◌≡◌, ◌≢◌, ℕ, ◌+◌, ◌-◌, ◌^◌, ◌<◌, ◌≤◌, ◌⊎◌, List, [], ◌∷◌, ◌++◌, min, Option, None, Some, option_and_then, slice_get, nat_le, nat_lt, if◌then◌else◌}
use Rattle.sms_worker.specs.declared.state.open.SegmentPlace.{SegmentPlace}
use Rattle.sms_worker.specs.declared.state.queue.Head.{Head}
use Rattle.sms_worker.specs.declared.state.queue.Queue.{Queue}
use Rattle.sms_worker.specs.declared.state.pending.PendingPart.{PendingPart}
use Rattle.sms_worker.specs.PendingState.{PendingState, pending_at, link_of, relinked}

-- a segment that waits, and when it is due
pub record Waiting : Type 0 where
  pub place : SegmentPlace
  pub due_ms : ℕ

-- from a segment on the links lead through these and to no more
abbrev pub Leads : List PendingState → Option SegmentPlace → List Waiting → Type 0
Leads pending from [] = from ≡ None
Leads pending from (w ∷ ws) = (from ≡ Some w.place) × (kept : PendingPart) × (pending_at pending w.place ≡ Some kept) × (kept.link.due_ms ≡ w.due_ms) × Leads pending kept.link.next ws

-- the segment isn't among them
abbrev pub IsOutside : SegmentPlace → List Waiting → Type 0
IsOutside place [] = Unit {0}
IsOutside place (w ∷ ws) = (w.place ≢ place) × IsOutside place ws

-- no segment is there twice
abbrev pub AreApart : List Waiting → Type 0
AreApart [] = Unit {0}
AreApart (w ∷ ws) = IsOutside w.place ws × AreApart ws

abbrev pub first_place : List Waiting → Option SegmentPlace
first_place [] = None
first_place (w ∷ ws) = Some w.place

abbrev pub last_place : List Waiting → Option SegmentPlace
last_place [] = None
last_place (w ∷ []) = Some w.place
last_place (w ∷ v ∷ ws) = last_place (v ∷ ws)

-- all but the first
abbrev pub later : List Waiting → List Waiting
later [] = []
later (w ∷ ws) = ws

-- the segment, if there is one, isn't among them
abbrev pub IsAway : Option SegmentPlace → List Waiting → Type 0
IsAway None ws = Unit {0}
IsAway (Some place) ws = IsOutside place ws

-- these segments wait in the queue, in order
pub record Spells (pending : List PendingState) (q : Queue) (ws : List Waiting) : Type 0 where
  pub leads : Leads pending q.first ws
  pub last : q.last ≡ last_place ws
  pub apart : AreApart ws

-- when the segment is due, by its link
abbrev pub due_at : List PendingState → SegmentPlace → ℕ
due_at pending place = (link_of (pending_at pending place)).due_ms

-- there is a part for the segment
abbrev pub IsKept : List PendingState → SegmentPlace → Type 0
IsKept pending place = (kept : PendingPart) × (pending_at pending place ≡ Some kept)

-- the links once a segment is linked behind the last, if there is one
abbrev pub linked_last : SegmentPlace → ℕ → List PendingState → List PendingState
linked_last place due pending = relinked pending place (record { due_ms = due; next = None })

abbrev pub linked_to : SegmentPlace → List PendingState → SegmentPlace → List PendingState
linked_to place pending last = relinked pending last (record { due_ms = due_at pending last; next = Some place })

abbrev pub appended : List PendingState → Option SegmentPlace → SegmentPlace → ℕ → List PendingState
appended pending None place due = linked_last place due pending
appended pending (Some last) place due = linked_to place (linked_last place due pending) last

-- the first of a queue once a segment is behind its last
abbrev pub first_behind : Option SegmentPlace → Option SegmentPlace → SegmentPlace → Option SegmentPlace
first_behind None first place = Some place
first_behind (Some last) first place = first

abbrev pub with_last : Queue → SegmentPlace → Queue
with_last q place = record { first = first_behind q.last q.first place; last = Some place }

-- the queue that begins where the link of its first leads
abbrev pub last_behind : Option SegmentPlace → Option SegmentPlace → Option SegmentPlace
last_behind None last = None
last_behind (Some next) last = last

abbrev pub beginning_at : Option SegmentPlace → Option SegmentPlace → Queue
beginning_at next last = record { first = next; last = last_behind next last }

abbrev pub without_first : List PendingState → Option SegmentPlace → Option SegmentPlace → Queue
without_first pending None last = record { first = None; last = last }
without_first pending (Some first) last = beginning_at (link_of (pending_at pending first)).next last

-- of the queues, the one at the place
pub record SpellsAt (pending : List PendingState) (qs : List Queue) (k : ℕ) (ws : List Waiting) : Type 0 where
  pub queue : Queue
  pub is : slice_get qs k ≡ Some queue
  pub spells : Spells pending queue ws

-- the first segment of the queue was taken out, and the other queues are as they were
pub record IsTaken (pending : List PendingState) (k : ℕ) (old new : List Queue) : Type 0 where
  pub waits : (ws : List Waiting) → SpellsAt pending old k ws → SpellsAt pending new k (later ws)
  pub others : (j : ℕ) → j ≢ k → slice_get new j ≡ slice_get old j

-- the segment waits in the queue, behind those that waited there
abbrev pub WaitsLast : List PendingState → List Queue → ℕ → Waiting → List PendingState → List Queue → Type 0
WaitsLast pending qs k w pending' qs' = (ws : List Waiting) → SpellsAt pending qs k ws → IsKept pending w.place → IsOutside w.place ws → SpellsAt pending' qs' k (ws ++ w ∷ [])

-- when a segment is due that is to wait so many milliseconds from now on
abbrev pub due_after : ℕ → ℕ → ℕ
due_after now ms = min (now + ms) (2 ^ 64 - 1)

abbrev pub first_in : List Queue → ℕ → Option SegmentPlace
first_in qs k = option_and_then (λ q. q.first) (slice_get qs k)

abbrev pub last_in : List Queue → ℕ → Option SegmentPlace
last_in qs k = option_and_then (λ q. q.last) (slice_get qs k)

-- the first segment of the queue is due, and none of another is due before it; of those that are due at once it is of the first queue
pub record IsDue (pending : List PendingState) (qs : List Queue) (now k : ℕ) : Type 0 where
  pub place : SegmentPlace
  pub first : first_in qs k ≡ Some place
  pub due : due_at pending place ≤ now
  pub least : (j : ℕ) (other : SegmentPlace) → first_in qs j ≡ Some other → (due_at pending place < due_at pending other) ⊎ ((due_at pending place ≡ due_at pending other) × (k ≤ j))

-- no first segment is due
abbrev pub NoneIsDue : List PendingState → List Queue → ℕ → Type 0
NoneIsDue pending qs now = (j : ℕ) (place : SegmentPlace) → first_in qs j ≡ Some place → now < due_at pending place

-- the segment is that first one
abbrev pub IsFirstDue : List PendingState → List Queue → ℕ → SegmentPlace → ℕ → Type 0
IsFirstDue pending qs now place k = IsDue pending qs now k × (first_in qs k ≡ Some place)

-- the one of two heads that is due before the other; none is as good as one that isn't due
abbrev pub sooner_of : ℕ → Option Head → Head → Option Head
sooner_of now None head = if nat_le head.due_ms now then Some head else None
sooner_of now (Some best) head = if nat_lt head.due_ms best.due_ms then Some head else Some best
