-- What is kept of a message that was begun, as contracts see it.
use Rattle.std.specs.Prelude.{◌≡◌, ℕ, zero, suc, ◌-◌, ◌⊎◌, List, [], ◌∷◌, length, map, Option, None, Some, option_and_then, slice_get, nat_le, if◌then◌else◌}
use Rattle.sms_segment.specs.declared.part.Part.{Part}
use Rattle.sms_worker.specs.declared.state.open.SegmentPlace.{SegmentPlace}
use Rattle.sms_worker.specs.declared.state.pending.PendingPart.{PendingPart}
use Rattle.sms_worker.specs.declared.state.pending.Link.{Link}
use Rattle.sms_message.specs.declared.user_data.UserData.{UserData}
use Rattle.sms_message.specs.UserData.{user_data}

-- its parts, each with its link, and how many segments aren't settled
pub record PendingState : Type 0 where
  pub parts : List PendingPart
  pub unsettled : ℕ

-- what its short messages carry
abbrev pub data_in : PendingState → List UserData
data_in pending = map (λ kept. kept.user_data) pending.parts

abbrev pub no_pending : PendingState
no_pending = record { parts = []; unsettled = 0 }

-- the link of a segment that is in no queue
abbrev pub no_link : Link
no_link = record { due_ms = 0; next = None }

-- a part that is in no queue
abbrev pub pending_part : Part → PendingPart
pending_part part = record { user_data = user_data part; link = no_link }

-- these parts, of which none is settled
abbrev pub pending_of : List Part → PendingState
pending_of parts = record { parts = map pending_part parts; unsettled = length parts }

-- the one part of a message, which carries this
abbrev pub pending_of_one : UserData → PendingState
pending_of_one content = record { parts = record { user_data = content; link = no_link } ∷ []; unsettled = 1 }

-- a segment more is settled; with the last one the parts are given back
abbrev pub settled_one : PendingState → PendingState
settled_one pending = if nat_le pending.unsettled 1 then no_pending else record pending { unsettled = pending.unsettled - 1 }

-- f of the item at a place, and the others as they were
abbrev pub changed : {X : Type 0} → (X → X) → List X → ℕ → List X
changed f [] place = []
changed f (x ∷ xs) zero = f x ∷ xs
changed f (x ∷ xs) (suc place) = x ∷ changed f xs place

-- the part has another link
abbrev pub with_link : ℕ → Link → PendingState → PendingState
with_link part link pending = record pending { parts = changed (λ kept. record kept { link = link }) pending.parts part }

abbrev pub relinked : List PendingState → SegmentPlace → Link → List PendingState
relinked pending place link = changed (with_link place.part link) pending place.message

-- what is kept for a segment
abbrev pub pending_at : List PendingState → SegmentPlace → Option PendingPart
pending_at pending place = option_and_then (λ t. slice_get t.parts place.part) (slice_get pending place.message)

-- what its short message carries, if that is kept
abbrev pub data_at : List PendingState → SegmentPlace → Option UserData
data_at pending place = option_and_then (λ t. slice_get (data_in t) place.part) (slice_get pending place.message)

abbrev pub link_of : Option PendingPart → Link
link_of None = no_link
link_of (Some kept) = kept.link

-- what is kept stays, or counts a segment more of the message as settled
abbrev pub LeavesPending : ℕ → List PendingState → List PendingState → Type 0
LeavesPending message old new = (new ≡ old) ⊎ (new ≡ changed settled_one old message)

-- no part of the message is in a queue
abbrev pub AreUnlinked : PendingState → Type 0
AreUnlinked pending = (part : ℕ) → link_of (slice_get pending.parts part) ≡ no_link
