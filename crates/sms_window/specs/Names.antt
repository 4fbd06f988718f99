-- The names that the keeper's seat has left after it gave the others, one by one.
use Rattle.std.specs.Prelude.{◌≡◌, ℕ, zero, suc, ◌-◌, ◌^◌, ◌<◌, ◌≤◌}
use Rattle.sms_window.specs.declared.view.View.{View}
use Rattle.sms_window.specs.declared.view.Opening.{Opening}
use Rattle.sms_window.specs.Seats.{most_names, CanSplit, giver, given}
use Rattle.sms_window.specs.Rule.{keeper}

-- it is named 0, and its family is the names below n
pub record HasNames (n : ℕ) (v : View) : Type 0 where
  pub name : v.name ≡ 0
  pub family : v.family ≡ 2 ^ n - 1

-- the seat v after k splits
abbrev pub gave : ℕ → View → View
gave zero v = v
gave (suc k) v = gave k (giver v)

-- a new window's keeper has all names
abbrev pub KeeperHasAll : Type 0
KeeperHasAll = (o : Opening) → HasNames most_names (keeper o)

-- it can split, gives the greatest of its n names, and keeps the rest
pub record GivesGreatestOf (n : ℕ) (v : View) : Type 0 where
  pub can : CanSplit v
  pub greatest : (given v).name ≡ n - 1
  pub rest : HasNames (n - 1) (giver v)

-- so it does while it has two or more
abbrev pub GivesInTurn : Type 0
GivesInTurn = (n : ℕ) (v : View) → 2 ≤ n → n ≤ most_names → HasNames n v → GivesGreatestOf n v

-- so with n names it can split n - 1 times, and after k of these it has n - k
abbrev pub GivesAll : Type 0
GivesAll = (k n : ℕ) (v : View) → k < n → n ≤ most_names → HasNames n v → HasNames (n - k) (gave k v)
