-- The sequence numbers of a bind's attempts: no two have one (SMPP 3.4 3.2).
use Rattle.std.specs.Prelude.{◌≡◌, ◌<◌, ◌≤◌, ℕ, List, Some, slice_get}
use Rattle.sms_core.specs.Numbers.{times, AllBelow}
use Rattle.sms_window.specs.declared.outcome.Closed.{Closed}
use Rattle.sms_window.specs.declared.view.View.{View}
use Rattle.sms_window.specs.Rule.{numbers_of}
use Rattle.sms_worker.specs.Apart.{IsAttempt, NumbersApart}
use Rattle.sms_worker.specs.Types.{Attempt, MessageEnd}
use Rattle.sms_driver.specs.declared.bind_end.BindEnd.{BindEnd}
use Rattle.sms_driver.specs.Answered.{ends_at}
use Rattle.sms_driver.specs.Seated.{of_bind}

-- an attempt: its worker, the message, the part, and the attempt's place among the part's attempts
pub record AttemptIn (ess : List (List MessageEnd)) : Type 0 where
  pub worker : ℕ
  pub message : ℕ
  pub part : ℕ
  pub attempt : ℕ
  pub ends : List MessageEnd
  pub theirs : slice_get ess worker ≡ Some ends
  pub one : Attempt
  pub is : IsAttempt ends message part attempt one

-- no two attempts of a bind's workers have one sequence_number
abbrev pub NumbersDiffer : List (List MessageEnd) → Type 0
NumbersDiffer ess = (a b : AttemptIn ess) → a.one.number ≡ b.one.number → (a.worker ≡ b.worker) × (a.message ≡ b.message) × (a.part ≡ b.part) × (a.attempt ≡ b.attempt)

-- the same of each bind
abbrev pub AreNumbered : ℕ → ℕ → List (List MessageEnd) → Type 0
AreNumbered binds workers ess = (bind : ℕ) → bind < binds → NumbersDiffer (ends_at workers bind ess)

-- a worker's seat and its ends: no two attempts have one number, and the seat drew the number of each
pub record HasNumbers (v : View) (es : List MessageEnd) : Type 0 where
  pub apart : NumbersApart es
  pub drawn : (k p i : ℕ) (a : Attempt) → IsAttempt es k p i a → 1 ≤ times a.number v.numbers

-- no number was drawn twice by these seats
abbrev pub DrewOnce : List View → Type 0
DrewOnce views = (n : ℕ) → times n (numbers_of views) ≤ 1

-- the same of the seats of the workers of each bind
abbrev pub AllDrewOnce : ℕ → ℕ → List View → Type 0
AllDrewOnce binds workers views = (bind : ℕ) → bind < binds → DrewOnce (of_bind workers bind views)

-- the numbers of all these attempts are below this one
abbrev pub NumbersBelow : ℕ → List (List MessageEnd) → Type 0
NumbersBelow next ess = (a : AttemptIn ess) → a.one.number < next

-- the same of each bind and the number that its window would have given next
abbrev pub AreBelow : ℕ → List BindEnd → List (List MessageEnd) → Type 0
AreBelow workers binds ess = (bind : ℕ) (b : BindEnd) → slice_get binds bind ≡ Some b → NumbersBelow b.window.next (ends_at workers bind ess)

-- what the seats of each bind's workers drew is below the number that its window was closed with
abbrev pub DrewBelow : ℕ → List View → List Closed → Type 0
DrewBelow workers views ends = (bind : ℕ) (c : Closed) → slice_get ends bind ≡ Some c → AllBelow c.next (numbers_of (of_bind workers bind views))
