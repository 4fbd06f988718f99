-- Which moves the program's own steps are, over the plays that it names: whatever the operands, each
-- step with a play is a move of its kind, in every state that meets the rule.
use Rattle.std.specs.Prelude.{◌≡◌, ◌≢◌, ℕ, ◌+◌, ◌-◌, ◌^◌, ◌==◌, [], ◌∷◌, ◌++◌, slice_index, slice_set, bit_and}
use prog.Atomic.{either}
use Rattle.atomic_table.specs.Table.{Step, Me}
use Rattle.sms_core.specs.Limits.{most_slots}
use Rattle.sms_window.specs.declared.view.View.{View}
use Rattle.sms_window.specs.declared.view.Opening.{Opening}
use Rattle.sms_window.specs.Seats.{CanSplit}
use Rattle.sms_window.specs.Rule.{IsWindow}
use Rattle.sms_window.specs.Moves.{Shared, IsSeated, after_step, with_views, Move, looks, claims, releases, splits, joins, looks_at_number, draws, Moves}

-- what a step leaves in the word where it found this: a load, an exchange, and a change by a mask
abbrev pub loaded : Step (Unit {0}) → ℕ → ℕ
loaded st found = found

abbrev pub exchanged : Step (Unit {0}) → ℕ → ℕ
exchanged st found = either (found == st.first) st.second found

abbrev pub masked : Step (Unit {0}) → ℕ → ℕ
masked st found = bit_and found st.first

-- which move it is, of the seat `id`
abbrev pub IsLook : Step (Unit {0}) → ℕ → ℕ → Move → Type 0
IsLook st found id m = m ≡ looks id

-- a claim where it finds the old word, else a look
abbrev pub IsClaimOrLook : Step (Unit {0}) → ℕ → ℕ → Move → Type 0
IsClaimOrLook st found id m = (found ≡ st.first → (slot : ℕ) × (st.second ≡ st.first + 2 ^ slot) × (m ≡ claims id slot)) × (found ≢ st.first → m ≡ looks id)

abbrev pub IsReleased : Step (Unit {0}) → ℕ → ℕ → Move → Type 0
IsReleased st found id m = (slot : ℕ) × (st.first ≡ 2 ^ most_slots - 1 - 2 ^ slot) × (m ≡ releases id slot)

abbrev pub IsLookAtNumber : Step (Unit {0}) → ℕ → ℕ → Move → Type 0
IsLookAtNumber st found id m = m ≡ looks_at_number id

-- a draw where it finds the old number, else a look
abbrev pub IsDrawOrLook : Step (Unit {0}) → ℕ → ℕ → Move → Type 0
IsDrawOrLook st found id m = (found ≡ st.first → m ≡ draws id) × (found ≢ st.first → m ≡ looks_at_number id)

-- each step with the play `told` is such a move; `left` says what it leaves in its word
abbrev pub StepsAre : (Step (Unit {0}) → Me (Unit {0}) View → ℕ → Me (Unit {0}) View → Type 0) → (Step (Unit {0}) → ℕ → ℕ) → (Step (Unit {0}) → ℕ → ℕ → Move → Type 0) → Type 0
StepsAre told left IsKind = (o : Opening) (s : Shared) (id : ℕ) (st : Step (Unit {0})) (me me' : Me (Unit {0}) View) → IsWindow o s → IsSeated s id me.0
    → told st me (slice_index s.words st.word) me'
    → (m : Move) × IsKind st (slice_index s.words st.word) id m × Moves s m (after_step s st.word (left st (slice_index s.words st.word)) id me'.0)

-- and so are the split and the join
abbrev pub SplitIsMove : (View → View) → (View → View) → Type 0
SplitIsMove left right = (s : Shared) (id : ℕ) (v : View) → IsSeated s id v → CanSplit v → Moves s (splits id) (with_views s (slice_set s.views id (left v) ++ right v ∷ []))

abbrev pub JoinIsMove : (View → View → View) → View → Type 0
JoinIsMove both spent = (s : Shared) (id other : ℕ) (v w : View) → IsSeated s id v → IsSeated s other w → other ≢ id → Moves s (joins id other) (with_views s (slice_set (slice_set s.views id (both v w)) other spent))
