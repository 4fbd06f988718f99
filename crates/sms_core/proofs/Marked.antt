-- The marks of the slots and the open requests, counted name by name.
use Rattle.std.proofs.Common.{◌≡◌, ℕ, suc, zero, ◌<◌, Bool, List, [], ◌∷◌, length, get_or, set, slice_get, Some, ap, arith}
use Rattle.std.proofs.lemmas.List.Sums.{sum_by-set}
use Rattle.sms_core.specs.declared.mark.Mark.{Mark}
use Rattle.sms_core.specs.declared.mark.Mark.TheVariants.{Empty, Replied, Open as Waiting}
use Rattle.sms_core.specs.declared.request.Request.{Request}
use Rattle.sms_core.specs.Tables.{AreMarks, is_marked}

-- an answer leaves a slot with its request
pub marks_answered : (rs : List Request) (ms : List Mark) (slot request number status : ℕ) (nack : Bool) → AreMarks rs ms → slot < length ms → get_or ms slot Empty ≡ Waiting request number → AreMarks rs (set ms slot (Replied request number status nack))
marks_answered rs ms slot request number status nack are lt is id =
    let s = sum_by-set (is_marked id) ms slot (Replied request number status nack) Empty lt in
    let same : is_marked id (get_or ms slot Empty) ≡ is_marked id (Replied request number status nack) = ap (is_marked id) is in
    omega (arith, are id)

pub at-slice_get : (ms : List Mark) (k : ℕ) (m : Mark) → slice_get ms k ≡ Some m → (k < length ms) × (get_or ms k Empty ≡ m)
at-slice_get [] k m e = absurd (cc)
at-slice_get (x ∷ ms) zero m e = (omega arith, cc)
at-slice_get (x ∷ ms) (suc k) m e = let h = at-slice_get ms k m e in (omega (arith, h.0), h.1)
