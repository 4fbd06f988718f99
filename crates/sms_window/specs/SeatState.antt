-- A seat as contracts see it: of which window, and what it knows.
use Rattle.std.specs.Prelude.{◌≡◌, ℕ, ◌<◌, List, []}
use Rattle.std.specs.Int.{bit_at}
use Rattle.atomic_table.specs.Seated.{TableId}
use Rattle.sms_window.specs.declared.view.View.{View}
use Rattle.sms_window.specs.Seats.{most_names}

pub record SeatState : Type 0 where
  pub window : TableId
  pub view : View

-- the name, the names and the slots that the program keeps are those of the view; the seat takes no values with it
pub record IsSound {S : Type 0} (v : View) (taken : List S) (own names held : ℕ) : Type 0 where
  pub empty : taken ≡ []
  pub name : own ≡ v.name
  pub family : names ≡ v.family
  pub slots : held ≡ v.slots
  pub small : own < most_names
  pub has_own : bit_at names own ≡ 1
