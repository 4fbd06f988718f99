-- A seat's slots as those that it had, and some that it opened beside them.
use Rattle.std.specs.Prelude.{◌≡◌, ◌↔◌, ℕ, ◌+◌, ◌^◌, ◌≤◌, List, [], ◌∷◌, ◌++◌}
use Rattle.std.specs.Int.{bit_at}
use Rattle.sms_core.specs.Limits.{most_slots}
use Rattle.sms_core.specs.Numbers.{times, AllBelow}
use Rattle.sms_window.specs.declared.view.View.{View}
use Rattle.sms_window.specs.Seats.{Holds}
use Rattle.sms_window.specs.Outcome.{GotSlot, FreedSlot}

-- the word of a list of slots
abbrev pub word_of_slots : List ℕ → ℕ
word_of_slots [] = 0
word_of_slots (x ∷ xs) = 2 ^ x + word_of_slots xs

-- the slots are those of the base and, apart from them, the open ones, each once
pub record IsOpen (base : ℕ) (more : List ℕ) (slots : ℕ) : Type 0 where
  pub sum : slots ≡ base + word_of_slots more
  pub apart : (k : ℕ) → bit_at base k + times k more ≤ 1
  pub small : AllBelow most_slots more

-- with none open, the slots are those of the base
abbrev pub NoneMore : Type 0
NoneMore = (base slots : ℕ) → IsOpen base [] slots ↔ (slots ≡ base)

-- a claim opens one more
abbrev pub OneMore : Type 0
OneMore = (base : ℕ) (more : List ℕ) (v w : View) (slot : ℕ) → IsOpen base more v.slots → GotSlot v slot w → IsOpen base (more ++ slot ∷ []) w.slots

-- the seat holds each open one, so it may release it, at any place of the list; then the others are open
abbrev pub OneLess : Type 0
OneLess = (base : ℕ) (before after : List ℕ) (v : View) (slot : ℕ) → IsOpen base (before ++ slot ∷ after) v.slots
    → Holds v slot × ((w : View) → FreedSlot v slot w → IsOpen base (before ++ after) w.slots)
