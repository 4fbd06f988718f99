-- Sums over the holders of a book's numbers, account by account.
use Rattle.std.specs.Prelude.{◌≡◌, ℕ, ◌+◌, ◌<◌, ◌≤◌, List, [], ◌∷◌, length}
use Rattle.sms_core.specs.declared.row.Row.{Row}
use Rattle.sms_core.specs.Rows.{IsBalanced}
use Rattle.sms_core.specs.Limits.{most_topped}
use Rattle.sms_book.specs.Limits.{most_returned}
use Rattle.sms_book.specs.declared.amounts.Amounts.{Amounts}
use Rattle.sms_book.specs.declared.rule.Portion.{Portion}
use Rattle.sms_book.specs.declared.rule.Entry.{Entry}
use Rattle.sms_book.specs.Shares.{Share}
use Rattle.sms_book.specs.Portions.{amounts_at, topped_at, row_at, portion_at}

-- one amount of an account, over all entries
abbrev pub total : (Portion → ℕ) → ℕ → List Entry → ℕ
total f i [] = 0
total f i (e ∷ es) = f (portion_at e.portions i) + total f i es

-- one amount of an account, over the workers' shares
abbrev pub over_shares : (Amounts → ℕ) → ℕ → List Share → ℕ
over_shares f i [] = 0
over_shares f i (s ∷ shares) = f (amounts_at s.amounts i) + over_shares f i shares

-- top-ups are within their bound, and what was ever returned with what may yet be is within its own, so that no sum wraps
abbrev pub IsSmall : Row → Type 0
IsSmall r = (r.topped ≤ most_topped) × (r.returned + r.reserved ≤ most_returned)

-- each row balances, within its bounds
abbrev pub AreSound : List Row → Type 0
AreSound rows = (i : ℕ) → i < length rows → IsBalanced (row_at rows i) × IsSmall (row_at rows i)

-- an account's total is the sum over the entries
pub record IsTotal (t : Portion) (i : ℕ) (es : List Entry) : Type 0 where
  pub topped : t.topped ≡ total (λ p. p.topped) i es
  pub reserved : t.reserved ≡ total (λ p. p.reserved) i es
  pub charged : t.charged ≡ total (λ p. p.charged) i es
  pub returned : t.returned ≡ total (λ p. p.returned) i es

-- so is each account's
abbrev pub AddUp : List Portion → List Entry → Type 0
AddUp totals es = (i : ℕ) → IsTotal (portion_at totals i) i es

-- a holder's portion of an account changes, and the account's total by as much
pub record MovesBy (had new : Portion) (was is : Portion) : Type 0 where
  pub topped : is.topped + had.topped ≡ was.topped + new.topped
  pub reserved : is.reserved + had.reserved ≡ was.reserved + new.reserved
  pub charged : is.charged + had.charged ≡ was.charged + new.charged
  pub returned : is.returned + had.returned ≡ was.returned + new.returned

-- so does each account's; there are as many totals as before
abbrev pub MoveBy : List Portion → List Portion → List Portion → List Portion → Type 0
MoveBy had new was is = (length is ≡ length was) × ((i : ℕ) → MovesBy (portion_at had i) (portion_at new i) (portion_at was i) (portion_at is i))

-- a gathered row balances; its top-ups are the till's, and its other totals the sums over the workers' shares
pub record IsSumOf (r : Row) (i : ℕ) (till : List ℕ) (shares : List Share) : Type 0 where
  pub topped : r.topped ≡ topped_at till i
  pub reserved : r.reserved ≡ over_shares (λ a. a.reserved) i shares
  pub charged : r.charged ≡ over_shares (λ a. a.charged) i shares
  pub returned : r.returned ≡ over_shares (λ a. a.returned) i shares
  pub balanced : IsBalanced r
