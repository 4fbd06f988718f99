-- Which step each kind of move is: on the hold set, on the drawn numbers, and on what the seats know
-- of the words and of their names.
use Rattle.std.specs.Prelude.{◌≡◌, ◌≢◌, ℕ, ◌+◌, ◌≤◌, ◌==◌, max, if◌then◌else◌, length, [], ◌∷◌, ◌++◌}
use Rattle.std.specs.Int.{bit_at}
use Rattle.sms_core.specs.Holds.{SamePairs, Claims, Releases, Passes}
use Rattle.sms_core.specs.Numbers.{times, Draws}
use Rattle.sms_window.specs.declared.view.View.{View}
use Rattle.sms_window.specs.Rule.{pairs_of, numbers_of}
use Rattle.sms_window.specs.Moves.{Shared, window_word, number_word, IsThere, Move, looks, claims, releases, splits, joins, looks_at_number, draws, Without}

-- the seat `id` before and after
pub record Turns (P : View → View → Type 0) (s : Shared) (id : ℕ) (t : Shared) : Type 0 where
  pub old : View
  pub new : View
  pub before : IsThere s id old
  pub after : IsThere t id new
  pub is : P old new

-- the seat `id` takes the slot, under its name
pub record ClaimsSlot (s : Shared) (id slot : ℕ) (t : Shared) : Type 0 where
  pub view : View
  pub there : IsThere s id view
  pub claim : Claims (pairs_of s.views) view.name slot (pairs_of t.views)

-- and gives it back
pub record ReleasesSlot (s : Shared) (id slot : ℕ) (t : Shared) : Type 0 where
  pub view : View
  pub there : IsThere s id view
  pub release : Releases (pairs_of s.views) view.name slot (pairs_of t.views)

-- what the seat `other` had under its name goes to that of the seat `id`
pub record PassesSlots (s : Shared) (id other : ℕ) (t : Shared) : Type 0 where
  pub view : View
  pub theirs : View
  pub there : IsThere s id view
  pub theirs_there : IsThere s other theirs
  pub pass : Passes (pairs_of s.views) (λ name. name == theirs.name) view.name (pairs_of t.views)

-- which step on hold sets each kind is
abbrev pub HoldStep : Shared → Move → Shared → Type 0
HoldStep s (looks id) t = SamePairs (pairs_of s.views) (pairs_of t.views)
HoldStep s (claims id slot) t = ClaimsSlot s id slot t
HoldStep s (releases id slot) t = ReleasesSlot s id slot t
HoldStep s (splits id) t = SamePairs (pairs_of s.views) (pairs_of t.views)
HoldStep s (joins id other) t = PassesSlots s id other t
HoldStep s (looks_at_number id) t = SamePairs (pairs_of s.views) (pairs_of t.views)
HoldStep s (draws id) t = SamePairs (pairs_of s.views) (pairs_of t.views)

-- the numbers of all seats stay, whoever has them
abbrev pub SameNumbers : Shared → Shared → Type 0
SameNumbers s t = (number_word t ≡ number_word s) × ((n : ℕ) → times n (numbers_of t.views) ≡ times n (numbers_of s.views))

-- the next number is the seat's last one, and no other seat's numbers change
abbrev pub OneMoreNumber : Shared → ℕ → Shared → Type 0
OneMoreNumber s id t =
    Turns (λ v w. Draws v.numbers (number_word s) w.numbers (number_word t)) s id t
    × ((n : ℕ) → times n (numbers_of t.views) ≡ times n (numbers_of s.views ++ number_word s ∷ []))

-- and what each kind does to the drawn numbers
abbrev pub NumberStep : Shared → Move → Shared → Type 0
NumberStep s (looks id) t = SameNumbers s t
NumberStep s (claims id slot) t = SameNumbers s t
NumberStep s (releases id slot) t = SameNumbers s t
NumberStep s (splits id) t = SameNumbers s t
NumberStep s (joins id other) t = SameNumbers s t
NumberStep s (looks_at_number id) t = SameNumbers s t
NumberStep s (draws id) t = OneMoreNumber s id t

-- after a step on the window word a seat knows that word as it is then
pub record KnowsWindow (word : ℕ) (v w : View) : Type 0 where
  pub met : w.met ≡ word
  pub seen : w.seen ≡ v.seen
  pub name : w.name ≡ v.name
  pub family : w.family ≡ v.family

-- and after a step on the number word that one
pub record KnowsNumber (number : ℕ) (v w : View) : Type 0 where
  pub seen : w.seen ≡ number
  pub met : w.met ≡ v.met
  pub name : w.name ≡ v.name
  pub family : w.family ≡ v.family

-- the greatest name of the family but for the seat's own
pub record IsGreatestOther (v : View) (name : ℕ) : Type 0 where
  pub there : bit_at v.family name ≡ 1
  pub other : name ≢ v.name
  pub greatest : (n : ℕ) → bit_at v.family n ≡ 1 → n ≢ v.name → n ≤ name

-- The seat `old` became `new` by a split, and `made` is the new seat: it has the greatest name that
-- could be given, and that name alone. Both know what the splitter knew
pub record SplitTurn (s : Shared) (id : ℕ) (t : Shared) : Type 0 where
  pub old : View
  pub new : View
  pub made : View
  pub before : IsThere s id old
  pub after : IsThere t id new
  pub there : IsThere t (length s.views) made
  pub name : new.name ≡ old.name
  pub greatest : IsGreatestOther old made.name
  pub one : (n : ℕ) → bit_at made.family n ≡ (if n == made.name then 1 else 0)
  pub rest : (n : ℕ) → bit_at new.family n + bit_at made.family n ≡ bit_at old.family n
  pub empty : (made.slots ≡ 0) × (made.numbers ≡ [])
  pub met : (new.met ≡ old.met) × (made.met ≡ old.met)
  pub seen : (new.seen ≡ old.seen) × (made.seen ≡ old.seen)

-- The seat `old` became `new` by taking in `theirs`, of which `left` remains: the names of both are
-- its own, and it has seen what either had seen
pub record JoinTurn (s : Shared) (id other : ℕ) (t : Shared) : Type 0 where
  pub old : View
  pub theirs : View
  pub new : View
  pub left : View
  pub before : IsThere s id old
  pub before_theirs : IsThere s other theirs
  pub after : IsThere t id new
  pub after_theirs : IsThere t other left
  pub name : new.name ≡ old.name
  pub family : (n : ℕ) → bit_at new.family n ≡ bit_at old.family n + bit_at theirs.family n
  pub met : new.met ≡ old.met
  pub seen : new.seen ≡ max old.seen theirs.seen
  pub spent : left.family ≡ 0

-- and what each kind does to what the seats know of the words, and to their names
abbrev pub SeatStep : Shared → Move → Shared → Type 0
SeatStep s (looks id) t = Turns (KnowsWindow (window_word t)) s id t
SeatStep s (claims id slot) t = Turns (KnowsWindow (window_word t)) s id t
SeatStep s (releases id slot) t = Turns (KnowsWindow (window_word t)) s id t
SeatStep s (splits id) t = SplitTurn s id t
SeatStep s (joins id other) t = JoinTurn s id other t
SeatStep s (looks_at_number id) t = Turns (KnowsNumber (number_word t)) s id t
SeatStep s (draws id) t = Turns (KnowsNumber (number_word t)) s id t

-- all of it; a seat that has no part in the move stays as it is
pub record IsStep (s : Shared) (m : Move) (t : Shared) : Type 0 where
  pub holds : HoldStep s m t
  pub numbers : NumberStep s m t
  pub seats : SeatStep s m t
  pub others : (seat : ℕ) (v : View) → IsThere s seat v → Without seat m → IsThere t seat v
