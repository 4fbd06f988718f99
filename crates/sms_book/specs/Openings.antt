-- With which accounts a book can open.
use Rattle.std.specs.Prelude.{◌≡◌, ◌⊎◌, ℕ, ◌<◌, ◌≤◌, List, [], length, map, slice_index, slice_index_or, string_bytes}
use Rattle.sms_core.specs.declared.row.Row.{Row}
use Rattle.sms_core.specs.Limits.{most_accounts, most_topped}
use Rattle.sms_book.specs.Limits.{most_workers}
use Rattle.sms_book.specs.declared.opening.Opening.{Opening}

-- the accounts' names, in their places
abbrev pub names_of : List Opening → List (List ℕ)
names_of openings = map (λ o. string_bytes o.name) openings

-- the accounts' credits, in their places
abbrev pub credits_of : List Opening → List ℕ
credits_of openings = map (λ o. o.credits) openings

-- there are accounts and workers, and no more than a book takes
abbrev pub GoodCount : List Opening → ℕ → Type 0
GoodCount openings workers = (0 < length openings) × (length openings ≤ most_accounts) × (0 < workers) × (workers ≤ most_workers)

-- two places, in order, have one name
pub record HaveOneName (names : List (List ℕ)) (first second : ℕ) : Type 0 where
  pub before : first < second
  pub there : second < length names
  pub same : slice_index_or names first [] ≡ slice_index_or names second []

-- of all such pairs it has the least second place, and then the least first
abbrev pub IsFirstDouble : List (List ℕ) → ℕ → ℕ → Type 0
IsFirstDouble names first second = HaveOneName names first second × ((x y : ℕ) → HaveOneName names x y → (second < y) ⊎ ((second ≡ y) × (first ≤ x)))

abbrev pub NoDouble : List (List ℕ) → Type 0
NoDouble names = (x y : ℕ) → ¬ (HaveOneName names x y)

-- no account begins with more credits than it may be topped up with
abbrev pub AllSmall : List ℕ → Type 0
AllSmall credits = (i : ℕ) → i < length credits → slice_index credits i ≤ most_topped

-- the row of an account that was just opened
abbrev pub opening_row : ℕ → Row
opening_row credits = record { topped = credits; free = credits; reserved = 0; charged = 0; returned = 0 }
