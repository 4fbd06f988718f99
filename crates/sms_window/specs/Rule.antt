-- What holds between any two steps on a window. Word 0 is the window word, word 1 the number word.
use Rattle.std.specs.Prelude.{◌≡◌, ℕ, ◌+◌, ◌-◌, ◌^◌, ◌<◌, ◌≤◌, List, [], ◌∷◌, ◌++◌, false, length, slice_index}
use Rattle.std.specs.Int.{bit_at}
use mathlib.Core.Option.{some}
use lib.ListN.{get_elem?}
use Rattle.atomic_table.specs.Table.{State}
use Rattle.sms_core.specs.Holds.{IsLawful, word_of}
use Rattle.sms_core.specs.Limits.{most_slots}
use Rattle.sms_core.specs.Numbers.{AreDrawn, AllBelow, IsRising}
use Rattle.sms_window.specs.declared.view.View.{View}
use Rattle.sms_window.specs.declared.view.Opening.{Opening}
use Rattle.sms_window.specs.Seats.{most_names, used_up, IsWhole, own_pairs}

-- f of each view, added up
abbrev pub total : (View → ℕ) → List View → ℕ
total f [] = 0
total f (v ∷ vs) = f v + total f vs

-- the pairs of all seats
abbrev pub pairs_of : List View → List (ℕ × ℕ)
pairs_of [] = []
pairs_of (v ∷ vs) = own_pairs v ++ pairs_of vs

-- the numbers of all seats
abbrev pub numbers_of : List View → List ℕ
numbers_of [] = []
numbers_of (v ∷ vs) = v.numbers ++ numbers_of vs

-- what holds of each seat, where the window opened with the number `opening`, and `next` is its next one
pub record IsSeat (opening next : ℕ) (v : View) : Type 0 where
  pub whole : IsWhole v.name v.family v.slots
  -- a seat that was joined to another has nothing any more
  pub spent : v.family ≡ 0 → (v.slots ≡ 0) × (v.numbers ≡ [])
  pub seen : v.seen ≤ next
  pub below : AllBelow v.seen v.numbers
  pub rising : v.has_joined ≡ false → IsRising v.numbers
  pub first : 0 < v.family → v.first ≡ opening

pub record IsWindow {S : Type 0} (o : Opening) (s : State S View) : Type 0 where
  pub two : length s.words ≡ 2
  -- the seats' pairs are a lawful hold set, whose word is the window word
  pub lawful : IsLawful (pairs_of s.views)
  pub word : word_of (pairs_of s.views) ≡ slice_index s.words 0
  -- each name is in one family
  pub names : (name : ℕ) → name < most_names → total (λ v. bit_at v.family name) s.views ≡ 1
  -- each number from the first to below the next was drawn once, and no other
  pub drawn : AreDrawn o.first (slice_index s.words 1) (numbers_of s.views)
  pub next : (o.first ≤ slice_index s.words 1) × (slice_index s.words 1 ≤ used_up)
  pub seats : (id : ℕ) (v : View) → get_elem? s.views id ≡ some v → IsSeat o.first (slice_index s.words 1) v

-- the keeper's seat at the opening: name 0, all names, and the slots from the limit on
abbrev pub keeper : Opening → View
keeper o = record { name = 0; family = 2 ^ most_names - 1; slots = 2 ^ most_slots - 2 ^ o.limit; numbers = []; has_joined = false; seen = o.first; met = 2 ^ most_slots - 2 ^ o.limit; first = o.first }
