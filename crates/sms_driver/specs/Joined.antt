-- A seat that took others in, and what its window was closed with.
use Rattle.std.specs.Prelude.{◌≡◌, ◌+◌, ◌≤◌, ◌++◌, ℕ, List, [], ◌∷◌, take, drop}
use Rattle.std.specs.List.{AllByRecursion}
use Rattle.sms_window.specs.declared.outcome.Closed.{Closed}
use Rattle.sms_window.specs.Outcome.{IsEnd}
use Rattle.sms_window.specs.declared.view.View.{View}
use Rattle.sms_window.specs.Rule.{numbers_of, total}

-- the seat v became w by taking in these, in this order: it has their names, their slots and their numbers beside its own,
-- and has seen what they had
pub record HasJoined (v : View) (others : List View) (w : View) : Type 0 where
  pub names : w.family ≡ v.family + total (λ u. u.family) others
  pub slots : w.slots ≡ v.slots + total (λ u. u.slots) others
  pub numbers : w.numbers ≡ v.numbers ++ numbers_of others
  pub first : w.first ≡ v.first
  pub seen : v.seen ≤ w.seen
  pub others_seen : AllByRecursion (λ u. u.seen ≤ w.seen) others

-- what the window ended with, once the keeper's seat had taken in the others
pub record IsClosed (keeper : View) (others : List View) (closed : Closed) : Type 0 where
  pub seat : View
  pub joined : HasJoined keeper others seat
  pub end : IsEnd seat closed.held closed.next

-- the same of each bind's window: its keeper took in the driver's seat and those of its workers
abbrev pub AreClosed : ℕ → List View → List View → List View → List Closed → Type 0
AreClosed workers keepers drivers others [] = Unit {0}
AreClosed workers [] drivers others (c ∷ cs) = ⊥
AreClosed workers (k ∷ keepers) [] others (c ∷ cs) = ⊥
AreClosed workers (k ∷ keepers) (d ∷ drivers) others (c ∷ cs) = IsClosed k (d ∷ take workers others) c × AreClosed workers keepers drivers (drop workers others) cs
