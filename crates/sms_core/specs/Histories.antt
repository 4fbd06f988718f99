-- Whole runs of the world: a history is a list of moments, each a step from where the one before left the world.
use Rattle.std.specs.Prelude.{◌≡◌, ℕ, ◌+◌, ◌<◌, ◌==◌, List, [], ◌∷◌, ◌++◌, map, slice_get, Some, false, if◌then◌else◌}
use Rattle.sms_core.specs.declared.event.Event.{Event}
use Rattle.sms_core.specs.declared.event.Event.TheVariants.{TopUp, Post, Respond, Release}
use Rattle.sms_core.specs.declared.event.Step.{Step}
use Rattle.sms_core.specs.declared.event.Step.TheVariants.{Done}
use Rattle.sms_core.specs.declared.mark.Mark.{Mark}
use Rattle.sms_core.specs.declared.mark.Mark.TheVariants.{Empty, Open, Replied}
use Rattle.sms_core.specs.State.{State, mark_of, AreLimits, new_world}
use Rattle.sms_core.specs.Steps.{Steps}

pub record Moment : Type 0 where
  pub before : State
  pub event : Event
  pub answer : Step
  pub after : State

abbrev pub IsHistory : State → List Moment → State → Type 0
IsHistory old [] new = new ≡ old
IsHistory old (m ∷ ms) new = (m.before ≡ old) × Steps m.before m.event m.answer m.after × IsHistory m.after ms new

-- these events, one after another, give these answers and leave this world
pub record Runs (old : State) (events : List Event) (answers : List Step) (new : State) : Type 0 where
  pub moments : List Moment
  pub history : IsHistory old moments new
  pub asked : map (λ m. m.event) moments ≡ events
  pub told : map (λ m. m.answer) moments ≡ answers

-- a history from the start of some world
pub record FromStart (ms : List Moment) (w : State) : Type 0 where
  pub accounts : ℕ
  pub limit : ℕ
  pub attempts : ℕ
  pub limits : AreLimits accounts limit attempts
  pub history : IsHistory (new_world accounts limit attempts) ms w

-- the number with which a slot waits
abbrev pub number_in : Mark → List ℕ
number_in Empty = []
number_in (Open request number) = number ∷ []
number_in (Replied request number status nack) = []

-- the number that a moment gave out: that of the slot after a Post that is done
abbrev pub given_by : Event → Step → State → List ℕ
given_by (Post worker slot request) Done after = number_in (mark_of after slot)
given_by event answer after = []

-- the numbers given by the Posts, in order
abbrev pub numbers_given : List Moment → List ℕ
numbers_given [] = []
numbers_given (m ∷ ms) = given_by m.event m.answer m.after ++ numbers_given ms

-- the number that a moment gave out to a worker
abbrev pub given_to : ℕ → Event → Step → State → List ℕ
given_to worker (Post other slot request) Done after = if other == worker then number_in (mark_of after slot) else []
given_to worker event answer after = []

-- the numbers that a worker's Posts were given, in order
abbrev pub numbers_given_to : ℕ → List Moment → List ℕ
numbers_given_to worker [] = []
numbers_given_to worker (m ∷ ms) = given_to worker m.event m.answer m.after ++ numbers_given_to worker ms

-- what a moment topped an account up with
abbrev pub topped_by : ℕ → Event → Step → ℕ
topped_by account (TopUp other amount) Done = if other == account then amount else 0
topped_by account event answer = 0

-- the sum of an account's TopUps that are done
abbrev pub topped_up : ℕ → List Moment → ℕ
topped_up account [] = 0
topped_up account (m ∷ ms) = topped_by account m.event m.answer + topped_up account ms

-- no moment is a done Release of the slot by the worker
abbrev pub NeverReleased : ℕ → ℕ → List Moment → Type 0
NeverReleased worker slot [] = Unit {0}
NeverReleased worker slot (m ∷ ms) = ((m.event ≡ Release worker slot) → (m.answer ≡ Done) → ⊥) × NeverReleased worker slot ms

-- the moment at the place is a done Post of the request, which gave it the number
pub record PostedAt (ms : List Moment) (place request number : ℕ) : Type 0 where
  pub moment : Moment
  pub worker : ℕ
  pub slot : ℕ
  pub there : slice_get ms place ≡ Some moment
  pub event : moment.event ≡ Post worker slot request
  pub done : moment.answer ≡ Done
  pub mark : mark_of moment.after slot ≡ Open request number

-- the moment at the place is a done Respond with the number, status 0 and no generic_nack
pub record AcceptedAt (ms : List Moment) (place number : ℕ) : Type 0 where
  pub moment : Moment
  pub there : slice_get ms place ≡ Some moment
  pub event : moment.event ≡ Respond number 0 false
  pub done : moment.answer ≡ Done

-- the charge of a request rests on the answer at a place: the answer has the number of an earlier Post of that request
pub record RestsOn (ms : List Moment) (request place : ℕ) : Type 0 where
  pub earlier : ℕ
  pub number : ℕ
  pub before : earlier < place
  pub posted : PostedAt ms earlier request number
  pub accepted : AcceptedAt ms place number
