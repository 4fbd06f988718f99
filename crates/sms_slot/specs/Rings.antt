-- The rings that carry answers to the workers: which ring took which answer, and what is known of their room.
-- What a list of rings has sent is a list of lists; a ring's place in it is its worker.
use Rattle.std.specs.Prelude.{◌≡◌, ◌≢◌, ℕ, zero, suc, ◌+◌, ◌<◌, ◌≤◌, ◌==◌, if◌then◌else◌, List, [], ◌∷◌, ◌++◌, Option, None, Some, slice_index}
use Rattle.sms_slot.specs.declared.slot.SlotDelivery.{SlotDelivery}
use Rattle.sms_slot.specs.declared.slot.SlotDelivery.TheVariants.{Matched, Overrun, Unknown}
use Rattle.sms_slot.specs.declared.row.Delivery.{Delivery}
use Rattle.sms_slot.specs.declared.row.Delivery.TheVariants.{Found, Overrun as DeliveryOverrun, Unknown as DeliveryUnknown}

-- the ring at the place has sent x after all else, and the others have sent what they had
abbrev pub pushed : {X : Type 0} → List (List X) → ℕ → X → List (List X)
pushed [] place x = []
pushed (l ∷ ls) zero x = (l ++ x ∷ []) ∷ ls
pushed (l ∷ ls) (suc place) x = l ∷ pushed ls place x

-- the same where a ring took x, or none did
abbrev pub pushed_to : {X : Type 0} → List (List X) → X → Option ℕ → List (List X)
pushed_to ls x None = ls
pushed_to ls x (Some place) = pushed ls place x

-- the same for each entry of a log in turn: an answer, and the ring that took it, if one did
abbrev pub handed : {X : Type 0} → List (List X) → List (X × Option ℕ) → List (List X)
handed ls [] = ls
handed ls (e ∷ es) = handed (pushed_to ls e.0 e.1) es

-- how many entries a ring took
abbrev pub count_handed : {X : Type 0} → List (X × Option ℕ) → ℕ
count_handed [] = 0
count_handed ((x, None) ∷ es) = count_handed es
count_handed ((x, Some place) ∷ es) = suc (count_handed es)

-- what the ring at the place took, in order
abbrev pub went_to : {X : Type 0} → ℕ → List (X × Option ℕ) → List X
went_to place [] = []
went_to place ((x, None) ∷ es) = went_to place es
went_to place ((x, Some p) ∷ es) = if p == place then x ∷ went_to place es else went_to place es

-- the ring that took the answer, if one did
abbrev pub place_of : SlotDelivery → Option ℕ
place_of (Matched worker) = Some worker
place_of (Overrun worker) = None
place_of Unknown = None

-- the worker that the answer is for has a ring, where the ring took it
abbrev pub HasRing : SlotDelivery → ℕ → Type 0
HasRing (Matched worker) rings = worker < rings
HasRing (Overrun worker) rings = Unit {0}
HasRing Unknown rings = Unit {0}

-- The room that each ring is known to have. A ring that takes an answer loses one place at most, and the other rings
-- none; an answer is given back only where the ring isn't known to have room, or there is no such ring.
abbrev pub Room : SlotDelivery → List ℕ → List ℕ → Type 0
Room (Matched worker) old new = (slice_index old worker ≤ slice_index new worker + 1) × ((place : ℕ) → place ≢ worker → slice_index new place ≡ slice_index old place)
Room (Overrun worker) old new = (slice_index old worker ≡ 0) × (new ≡ old)
Room Unknown old new = new ≡ old

-- what the slot did with the answer, from what its row returns
abbrev pub slot_delivery : Delivery → SlotDelivery
slot_delivery (Found slot worker) = Matched worker
slot_delivery (DeliveryOverrun slot worker) = Overrun worker
slot_delivery DeliveryUnknown = Unknown
