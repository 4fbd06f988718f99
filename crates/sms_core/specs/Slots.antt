-- The table of a window's slots: who has each, and what for.
use Rattle.std.specs.Prelude.{◌≡◌, ℕ, suc, ◌==◌, Bool, false, List, [], ◌∷◌, slice_get, slice_set, Option, Some, None}
use Rattle.sms_core.specs.declared.mark.Mark.{Mark}
use Rattle.sms_core.specs.declared.mark.Mark.TheVariants.{Empty, Open, Replied}
use Rattle.sms_core.specs.declared.slots.Slot.{Slot}
use Rattle.sms_core.specs.declared.slots.Slot.TheVariants.{Free, Held}

pub record Table : Type 0 where
  -- which worker has which slot
  pub holds : List (ℕ × ℕ)
  -- what each slot is used for
  pub marks : List Mark

-- the pairs of the slots from n on that have these holders
abbrev pub pairs_from : ℕ → List (Option ℕ) → List (ℕ × ℕ)
pairs_from n [] = []
pairs_from n (None ∷ hs) = pairs_from (suc n) hs
pairs_from n (Some worker ∷ hs) = (worker, n) ∷ pairs_from (suc n) hs

-- the worker that has a slot, and what for: a slot that nobody has is empty
abbrev pub worker_in : Slot → Option ℕ
worker_in Free = None
worker_in (Held worker mark) = Some worker

abbrev pub mark_in : Slot → Mark
mark_in Free = Empty
mark_in (Held worker mark) = mark

-- whether the worker has the slot
abbrev pub is_of : ℕ → Slot → Bool
is_of worker Free = false
is_of worker (Held holder mark) = holder == worker

-- a slot that waits for this number has its answer
pub record Answers (old : Table) (number status : ℕ) (nack : Bool) (new : Table) : Type 0 where
  pub slot : ℕ
  pub request : ℕ
  pub waits : slice_get old.marks slot ≡ Some (Open request number)
  pub after : new ≡ record old { marks = slice_set old.marks slot (Replied request number status nack) }
