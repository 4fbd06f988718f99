-- What a seat drew since it was as v, whatever it claimed and released meanwhile.
use Rattle.std.specs.Prelude.{◌≡◌, ℕ, ◌≤◌, List, [], ◌∷◌, ◌++◌}
use Rattle.sms_core.specs.Numbers.{times, AllBelow, IsRising}
use Rattle.sms_window.specs.declared.view.View.{View}
use Rattle.sms_window.specs.declared.outcome.Claim.{Claim}
use Rattle.sms_window.specs.Seats.{used_up}
use Rattle.sms_window.specs.Outcome.{Claimed, FreedSlot, DrewNumber, SawNumber}

-- each number of the list is at least the low one
abbrev pub AllFrom : ℕ → List ℕ → Type 0
AllFrom low [] = Unit {0}
AllFrom low (x ∷ xs) = (low ≤ x) × AllFrom low xs

-- the seat v when it drew these numbers; its slots and what it knows of the words are then these
abbrev pub drawn_on : View → List ℕ → ℕ → ℕ → ℕ → View
drawn_on v drawn slots seen met = record v { numbers = v.numbers ++ drawn; slots = slots; seen = seen; met = met }

-- The seat v became w, and drew these numbers in between: they rise from what it had seen, and it
-- has seen more than each of them
pub record HasDrawn (v : View) (drawn : List ℕ) (w : View) : Type 0 where
  pub after : w ≡ drawn_on v drawn w.slots w.seen w.met
  pub later : v.seen ≤ w.seen
  pub from : AllFrom v.seen drawn
  pub below : AllBelow w.seen drawn
  pub rising : IsRising drawn
  pub lawful : AllBelow used_up drawn

abbrev pub DrawsNone : Type 0
DrawsNone = (v : View) → HasDrawn v [] v

-- a draw adds its number
abbrev pub DrawsOne : Type 0
DrawsOne = (v w u : View) (drawn : List ℕ) (n : ℕ) → HasDrawn v drawn w → DrewNumber w n u → HasDrawn v (drawn ++ n ∷ []) u

-- a try that draws nothing adds none, nor does a claim, a try to claim or a release
abbrev pub LooksDrawNone : Type 0
LooksDrawNone = (v w u : View) (drawn : List ℕ) (found : ℕ) → HasDrawn v drawn w → SawNumber w found u → HasDrawn v drawn u

abbrev pub ClaimsDrawNone : Type 0
ClaimsDrawNone = (v w u : View) (drawn : List ℕ) (claim : Claim) → HasDrawn v drawn w → Claimed w claim u → HasDrawn v drawn u

abbrev pub ReleasesDrawNone : Type 0
ReleasesDrawNone = (v w u : View) (drawn : List ℕ) (slot : ℕ) → HasDrawn v drawn w → FreedSlot w slot u → HasDrawn v drawn u

-- one stretch after another
abbrev pub DrawsAddUp : Type 0
DrawsAddUp = (v w u : View) (xs ys : List ℕ) → HasDrawn v xs w → HasDrawn w ys u → HasDrawn v (xs ++ ys) u

-- no number comes twice
abbrev pub DrawsEachOnce : Type 0
DrawsEachOnce = (v w : View) (drawn : List ℕ) (n : ℕ) → HasDrawn v drawn w → times n drawn ≤ 1
