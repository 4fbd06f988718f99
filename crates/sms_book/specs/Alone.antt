-- What is known of a book with one share: all that its rows have beside free credits is in that share.
use Rattle.std.specs.Prelude.{◌≡◌, ℕ, ◌+◌, ◌<◌, ◌≤◌, Bool, List, [], ◌∷◌, length, true}
use Rattle.sms_core.specs.declared.row.Row.{Row}
use Rattle.sms_core.specs.Limits.{most_topped}
use Rattle.sms_book.specs.declared.amounts.Amounts.{Amounts}
use Rattle.sms_book.specs.declared.rule.Portion.{Portion}
use Rattle.sms_book.specs.declared.rule.Entry.{Entry}
use Rattle.sms_book.specs.Name.{BookId}
use Rattle.sms_book.specs.Portions.{portion_at, row_at, topped_at}

-- the credits that an account begins with
abbrev pub opening_at : BookId → ℕ → ℕ
opening_at book account = topped_at book.opening account

-- the row of an account that began with so many credits, in a book whose one share has these amounts of it
pub record IsOfOne (opening : ℕ) (a : Amounts) (r : Row) : Type 0 where
  pub reserved : r.reserved ≡ a.reserved
  pub charged : r.charged ≡ a.charged
  pub returned : r.returned ≡ a.returned
  pub free : opening ≤ r.free + a.reserved + a.charged
  pub small : opening ≤ most_topped

-- a row of an account that began with so many credits: its top-ups are at least these, and in a sealed book no more
pub record IsOpened (sealed : Bool) (opening : ℕ) (r : Row) : Type 0 where
  pub least : opening ≤ r.topped
  pub most : sealed ≡ true → r.topped ≤ opening

-- each row's top-ups are at least what its account began with, and in a sealed book no more
abbrev pub AreOpened : Bool → List ℕ → List Row → Type 0
AreOpened sealed opening rows = (i : ℕ) → i < length rows → IsOpened sealed (topped_at opening i) (row_at rows i)

-- the till reserves, charges and returns nothing
pub record IsOfTill (p : Portion) : Type 0 where
  pub reserved : p.reserved ≡ 0
  pub charged : p.charged ≡ 0
  pub returned : p.returned ≡ 0

-- the first entry is the till's
abbrev pub TillFirst : List Entry → Type 0
TillFirst [] = Unit {0}
TillFirst (e ∷ es) = (i : ℕ) → IsOfTill (portion_at e.portions i)
