-- What a seat has, and its view after each kind of step.
use Rattle.std.specs.Prelude.{◌≡◌, ℕ, ◌+◌, ◌-◌, ◌^◌, ◌<◌, max, true, false, List, [], ◌∷◌, ◌++◌}
use Rattle.std.specs.Int.{w64, leading_zeros, bit_at}
use Rattle.sms_core.specs.Holds.{pairs_below}
use Rattle.sms_core.specs.Limits.{most_slots, top_number}
use Rattle.sms_window.specs.declared.view.View.{View}

-- names are the numbers below it
abbrev pub most_names : ℕ
most_names = 64

-- the number word once every number was drawn
abbrev pub used_up : ℕ
used_up = top_number + 1

-- the seat holds the slot
abbrev pub Holds : View → ℕ → Type 0
Holds v slot = (slot < most_slots) × (bit_at v.slots slot ≡ 1)

-- the names and the slots of a seat are words, and its own name is in its family
pub record IsWhole (own names held : ℕ) : Type 0 where
  pub family : names < 2 ^ most_names
  pub slots : held < 2 ^ most_slots
  pub named : 0 < names → (own < most_names) × (bit_at names own ≡ 1)

-- the pairs of its name and a slot that it holds
abbrev pub own_pairs : View → List (ℕ × ℕ)
own_pairs v = pairs_below v.name v.slots most_slots

-- it has all names, so every other seat was joined, and its own are all slots and numbers of the window
abbrev pub IsComplete : View → Type 0
IsComplete v = v.family ≡ 2 ^ most_names - 1

-- the family but for the seat's own name
abbrev pub other_names : View → ℕ
other_names v = v.family - 2 ^ v.name

abbrev pub CanSplit : View → Type 0
CanSplit v = 0 < other_names v

-- the greatest name of the family but for the seat's own
abbrev pub name_to_give : View → ℕ
name_to_give v = 63 - leading_zeros w64 (other_names v)

-- after a step on the window word that left the seat's slots
abbrev pub met_with : View → ℕ → View
met_with v word = record v { met = word }

-- after a step on the window word that gave it these slots
abbrev pub with_slots : View → ℕ → ℕ → View
with_slots v slots word = record v { slots = slots; met = word }

-- after a step on the number word that drew nothing
abbrev pub seen_with : View → ℕ → View
seen_with v n = record v { seen = n }

-- after it drew n
abbrev pub drawn_with : View → ℕ → View
drawn_with v n = record v { numbers = v.numbers ++ n ∷ []; seen = n + 1 }

-- the splitter after a split
abbrev pub giver : View → View
giver v = record v { family = v.family - 2 ^ name_to_give v }

-- the new seat after a split: one name, no slots and no numbers
abbrev pub given : View → View
given v = record { name = name_to_give v; family = 2 ^ name_to_give v; slots = 0; numbers = []; has_joined = false; seen = v.seen; met = v.met; first = v.first }

-- the seat v after it took in the seat w
abbrev pub joined : View → View → View
joined v w = record v { family = v.family + w.family; slots = v.slots + w.slots; numbers = v.numbers ++ w.numbers; has_joined = true; seen = max v.seen w.seen }

-- what is left of the seat that was taken in
abbrev pub nobody : View
nobody = record { name = 0; family = 0; slots = 0; numbers = []; has_joined = false; seen = 0; met = 0; first = 0 }
