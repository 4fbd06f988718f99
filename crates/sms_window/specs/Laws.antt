-- The laws of a window, over every state that meets its rule, and over every run of steps.
use Rattle.std.specs.Prelude.{◌-◌, ◌^◌, ◌≤◌, ◌↔◌, ◌≡◌, ◌≢◌, ℕ, ◌<◌, false, List, [], ◌∷◌}
use Rattle.std.specs.Int.{bit_at}
use Rattle.atomic_table.specs.Table.{opening}
use Rattle.sms_core.specs.Limits.{most_slots}
use Rattle.sms_core.specs.Holds.{IsLawful, word_of, holders_of}
use Rattle.sms_core.specs.Numbers.{AreDrawn, AllBelow, IsRising}
use Rattle.sms_window.specs.declared.view.View.{View}
use Rattle.sms_window.specs.declared.view.Opening.{Opening}
use Rattle.sms_window.specs.Seats.{most_names, used_up, CanSplit, Holds, name_to_give}
use Rattle.sms_window.specs.Rule.{pairs_of, numbers_of, IsWindow}
use Rattle.sms_window.specs.Outcome.{IsLimit, IsFirst}
use Rattle.sms_window.specs.MoveSteps.{IsGreatestOther, IsStep}
use Rattle.sms_window.specs.Moves.{Shared, window_word, number_word, IsThere, new_window, Move, claims, draws, Moves, Runs, AllSpare, AllWithout}

-- What holds between any two steps
pub record IsOrderly (o : Opening) (s : Shared) : Type 0 where
  -- the seats' pairs are a lawful hold set, and the window word is its word
  pub lawful : IsLawful (pairs_of s.views)
  pub word : word_of (pairs_of s.views) ≡ window_word s
  pub bits : (slot : ℕ) → bit_at (window_word s) slot ≡ holders_of slot (pairs_of s.views)
  pub slots_apart : (id other slot : ℕ) (v w : View) → other ≢ id → IsThere s id v → IsThere s other w → Holds v slot → ¬ Holds w slot
  -- the seats' numbers are those from the first to below the number word, each once
  pub drawn : AreDrawn o.first (number_word s) (numbers_of s.views)
  pub next : (o.first ≤ number_word s) × (number_word s ≤ used_up)
  pub seen : (id : ℕ) (v : View) → IsThere s id v → (v.seen ≤ number_word s) × AllBelow v.seen v.numbers
  pub rising : (id : ℕ) (v : View) → IsThere s id v → v.has_joined ≡ false → IsRising v.numbers
  -- no two seats' families share a name, and each has its own
  pub families_apart : (id other name : ℕ) (v w : View) → other ≢ id → IsThere s id v → IsThere s other w → bit_at v.family name ≡ 1 → bit_at w.family name ≡ 0
  pub named : (id : ℕ) (v : View) → IsThere s id v → 0 < v.family → (v.name < most_names) × (bit_at v.family v.name ≡ 1)
  -- a seat that was joined to another has nothing
  pub spent : (id : ℕ) (v : View) → IsThere s id v → v.family ≡ 0 → (v.slots ≡ 0) × (v.numbers ≡ [])

-- what a table's rule says, and the view of its first seat that the opening has
abbrev pub RuleIsOrderly : (Opening → Shared → Type 0) → Type 0
RuleIsOrderly holds = (o : Opening) (s : Shared) → holds o s → IsOrderly o s

abbrev pub OpeningMeetsRule : (Opening → Shared → Type 0) → (Opening → View) → Type 0
OpeningMeetsRule holds first = (o : Opening) → IsLimit o.limit → IsFirst o.first → holds o (opening ((2 ^ most_slots - 2 ^ o.limit) ∷ o.first ∷ []) [] (first o))

abbrev pub MoveKeepsRule : Type 0
MoveKeepsRule = (o : Opening) (s : Shared) (m : Move) (t : Shared) → IsWindow o s → Moves s m t → IsWindow o t

abbrev pub RunIsOrderly : Type 0
RunIsOrderly = (o : Opening) (ms : List Move) (t : Shared) → IsLimit o.limit → IsFirst o.first → Runs (new_window o) ms t → IsOrderly o t

abbrev pub MoveIsStep : Type 0
MoveIsStep = (o : Opening) (s : Shared) (m : Move) (t : Shared) → IsWindow o s → Moves s m t → IsStep s m t

-- a slot that was claimed can't be claimed before it was released, however the seats' steps fall in between
abbrev pub ClaimedOnce : Type 0
ClaimedOnce = (o : Opening) (s claimed later after : Shared) (id other slot : ℕ) (ms : List Move) → IsWindow o s
    → Moves s (claims id slot) claimed → Runs claimed ms later → AllSpare slot ms → ¬ Moves later (claims other slot) after

-- a number that was drawn is never the next one again
abbrev pub DrawnOnce : Type 0
DrawnOnce = (o : Opening) (s drawn later : Shared) (id : ℕ) (ms : List Move) → IsWindow o s
    → Moves s (draws id) drawn → Runs drawn ms later → number_word s < number_word later

-- what a seat has stays while others step, so also after it was dropped
abbrev pub DroppedStays : Type 0
DroppedStays = (s later : Shared) (seat : ℕ) (v : View) (ms : List Move) → IsThere s seat v → Runs s ms later → AllWithout seat ms → IsThere later seat v

-- a seat can split where its family has a name beside its own, and then gives the greatest of these
abbrev pub GivesGreatest : Type 0
GivesGreatest = (o : Opening) (s : Shared) (id : ℕ) (v : View) → IsWindow o s → IsThere s id v → 0 < v.family
    → (CanSplit v ↔ ((n : ℕ) × (n ≢ v.name) × (bit_at v.family n ≡ 1)))
    × (CanSplit v → IsGreatestOther v (name_to_give v))
