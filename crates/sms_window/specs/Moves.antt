-- A window as plain data, each kind of step on it, and runs of such steps in any order by any of
-- its seats. An exchange that fails is a look at the word that it found.
use Rattle.std.specs.Prelude.{◌≡◌, ◌≢◌, ℕ, ◌+◌, ◌-◌, ◌^◌, ◌<◌, ◌≤◌, List, [], ◌∷◌, ◌++◌, slice_index, slice_set}
use Rattle.std.specs.Int.{bit_at}
use mathlib.Core.Option.{some}
use lib.ListN.{get_elem?}
use Rattle.atomic_table.specs.Table.{State, opening}
use Rattle.sms_core.specs.Limits.{most_slots, top_number}
use Rattle.sms_window.specs.declared.view.View.{View}
use Rattle.sms_window.specs.declared.view.Opening.{Opening}
use Rattle.sms_window.specs.Seats.{CanSplit, Holds, met_with, with_slots, seen_with, drawn_with, giver, given, joined, nobody}
use Rattle.sms_window.specs.Rule.{keeper}

abbrev pub Shared : Type 0
Shared = State (Unit {0}) View

abbrev pub window_word : Shared → ℕ
window_word s = slice_index s.words 0

abbrev pub number_word : Shared → ℕ
number_word s = slice_index s.words 1

-- the seat with this number has the view v
abbrev pub IsThere : Shared → ℕ → View → Type 0
IsThere s id v = get_elem? s.views id ≡ some v

-- and was not joined to another
abbrev pub IsSeated : Shared → ℕ → View → Type 0
IsSeated s id v = IsThere s id v × (0 < v.family)

-- a new window, with the keeper's seat
abbrev pub new_window : Opening → Shared
new_window o = opening ((2 ^ most_slots - 2 ^ o.limit) ∷ o.first ∷ []) [] (keeper o)

-- after a step of the seat `id` on a word
abbrev pub after_step : Shared → ℕ → ℕ → ℕ → View → Shared
after_step s word n id v = record { words = slice_set s.words word n; homes = s.homes; views = slice_set s.views id v }

abbrev pub with_views : Shared → List View → Shared
with_views s views = record { words = s.words; homes = s.homes; views = views }

-- The kinds of step. The first number is that of the seat that steps; then comes the slot, or the
-- seat that is taken in
pub data Move : Type 0 where
  looks : ℕ → Move
  claims : ℕ → ℕ → Move
  releases : ℕ → ℕ → Move
  splits : ℕ → Move
  joins : ℕ → ℕ → Move
  looks_at_number : ℕ → Move
  draws : ℕ → Move

-- In each of these the seat `id` steps, which has this view; the state after it is t
pub record LooksAtWindow (s : Shared) (id : ℕ) (t : Shared) : Type 0 where
  pub view : View
  pub seated : IsSeated s id view
  pub after : t ≡ after_step s 0 (window_word s) id (met_with view (window_word s))

pub record ClaimsSlot (s : Shared) (id slot : ℕ) (t : Shared) : Type 0 where
  pub view : View
  pub seated : IsSeated s id view
  pub inside : slot < most_slots
  pub free : bit_at (window_word s) slot ≡ 0
  pub after : t ≡ after_step s 0 (window_word s + 2 ^ slot) id (with_slots view (view.slots + 2 ^ slot) (window_word s + 2 ^ slot))

pub record ReleasesSlot (s : Shared) (id slot : ℕ) (t : Shared) : Type 0 where
  pub view : View
  pub seated : IsSeated s id view
  pub held : Holds view slot
  pub after : t ≡ after_step s 0 (window_word s - 2 ^ slot) id (with_slots view (view.slots - 2 ^ slot) (window_word s - 2 ^ slot))

pub record SplitsOff (s : Shared) (id : ℕ) (t : Shared) : Type 0 where
  pub view : View
  pub seated : IsSeated s id view
  pub can : CanSplit view
  pub after : t ≡ with_views s (slice_set s.views id (giver view) ++ given view ∷ [])

-- the seat `other`, which has the view `theirs`, is taken in
pub record TakesIn (s : Shared) (id other : ℕ) (t : Shared) : Type 0 where
  pub view : View
  pub theirs : View
  pub seated : IsSeated s id view
  pub there : IsSeated s other theirs
  pub apart : other ≢ id
  pub after : t ≡ with_views s (slice_set (slice_set s.views id (joined view theirs)) other nobody)

pub record LooksAtNumber (s : Shared) (id : ℕ) (t : Shared) : Type 0 where
  pub view : View
  pub seated : IsSeated s id view
  pub after : t ≡ after_step s 1 (number_word s) id (seen_with view (number_word s))

pub record DrawsNext (s : Shared) (id : ℕ) (t : Shared) : Type 0 where
  pub view : View
  pub seated : IsSeated s id view
  pub lawful : number_word s ≤ top_number
  pub after : t ≡ after_step s 1 (number_word s + 1) id (drawn_with view (number_word s))

abbrev pub Moves : Shared → Move → Shared → Type 0
Moves s (looks id) t = LooksAtWindow s id t
Moves s (claims id slot) t = ClaimsSlot s id slot t
Moves s (releases id slot) t = ReleasesSlot s id slot t
Moves s (splits id) t = SplitsOff s id t
Moves s (joins id other) t = TakesIn s id other t
Moves s (looks_at_number id) t = LooksAtNumber s id t
Moves s (draws id) t = DrawsNext s id t

abbrev pub Runs : Shared → List Move → Shared → Type 0
Runs s [] t = t ≡ s
Runs s (m ∷ ms) t = (mid : Shared) × Moves s m mid × Runs mid ms t

-- it isn't a release of the slot
abbrev pub Spares : ℕ → Move → Type 0
Spares slot (looks id) = Unit {0}
Spares slot (claims id k) = Unit {0}
Spares slot (releases id k) = k ≢ slot
Spares slot (splits id) = Unit {0}
Spares slot (joins id other) = Unit {0}
Spares slot (looks_at_number id) = Unit {0}
Spares slot (draws id) = Unit {0}

abbrev pub AllSpare : ℕ → List Move → Type 0
AllSpare slot [] = Unit {0}
AllSpare slot (m ∷ ms) = Spares slot m × AllSpare slot ms

-- the seat makes no step of it, as a seat that was dropped
abbrev pub Without : ℕ → Move → Type 0
Without seat (looks id) = seat ≢ id
Without seat (claims id k) = seat ≢ id
Without seat (releases id k) = seat ≢ id
Without seat (splits id) = seat ≢ id
Without seat (joins id other) = (seat ≢ id) × (seat ≢ other)
Without seat (looks_at_number id) = seat ≢ id
Without seat (draws id) = seat ≢ id

abbrev pub AllWithout : ℕ → List Move → Type 0
AllWithout seat [] = Unit {0}
AllWithout seat (m ∷ ms) = Without seat m × AllWithout seat ms
