-- What books in memory are: the state that they keep, and where each stake is found.
use Rattle.std.specs.Prelude.{◌≡◌, ◌++◌, ℕ, List, length, Option, Some, position, if◌then◌else◌}
use Rattle.std.specs.Str.{bytes_eq}
use Rattle.std.specs.HashMap.{get_by_text}
use Rattle.sms_ledger.specs.declared.entry.Stake.{Stake}
use Rattle.sms_ledger.specs.declared.books.Books.{Books}
use Rattle.sms_ledger.specs.Books.{AreBalanced, State, is_of}

abbrev pub state_of : Books → State
state_of b = record {
  accounts = λ q. get_by_text b.rows q;
  opened = b.opened.items;
  stakes = b.taken.items;
  payments = λ q. get_by_text b.payments q;
  decided = λ q. get_by_text b.parts q;
}

-- a run's name has 32 octets, so that keys differ
abbrev pub ArePlaces : (List ℕ → Option ℕ) → List Stake → Type 0
ArePlaces places stakes = (run account : List ℕ) → length run ≡ 32 → places (run ++ account) ≡ position (is_of run account) stakes

pub record IsSound (b : Books) : Type 0 where
  pub found : ArePlaces (λ k. get_by_text b.places k) b.taken.items
  pub balanced : AreBalanced (state_of b)

-- this key has this value
abbrev pub set_at : {A : Type 0} → List ℕ → A → (List ℕ → Option A) → List ℕ → Option A
set_at key value map other = if bytes_eq key other then Some value else map other
