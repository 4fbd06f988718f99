-- A worker's share as contracts see it, and the shares that a book has.
use Rattle.std.specs.Prelude.{ℕ, zero, suc, ◌+◌, List, [], ◌∷◌, ◌++◌, map, replicate, slice_set}
use Rattle.sms_core.specs.Numbers.{AreDrawn}
use Rattle.sms_book.specs.declared.amounts.Amounts.{Amounts}
use Rattle.sms_book.specs.declared.rule.View.{View}
use Rattle.sms_book.specs.declared.rule.View.TheVariants.{Book, Lent, Holder, Spent}
use Rattle.sms_book.specs.Portions.{no_amounts, amounts_at}

-- its number in the book, from 1 on, and what it has of each account
pub record Share : Type 0 where
  pub number : ℕ
  pub amounts : List Amounts

-- the number that a seat holds; a share's seat holds one
abbrev pub number_of : List View → ℕ
number_of [] = 0
number_of (Holder k ps ∷ vs) = k
number_of (Book es ts ∷ vs) = 0
number_of (Lent es ts k ps ∷ vs) = 0
number_of (Spent ∷ vs) = 0

-- the share after what it has of an account changed
abbrev pub changed : Share → ℕ → (Amounts → Amounts) → Share
changed s account change = record s { amounts = slice_set s.amounts account (change (amounts_at s.amounts account)) }

-- a share that moved nothing yet
abbrev pub blank_share : ℕ → ℕ → Share
blank_share accounts number = record { number = number; amounts = replicate accounts no_amounts }

-- the shares of a book that was just opened, with the numbers from 1 to the workers' count
abbrev pub opening_shares : ℕ → ℕ → List Share
opening_shares accounts zero = []
opening_shares accounts (suc workers) = opening_shares accounts workers ++ blank_share accounts (suc workers) ∷ []

-- they are the shares of a book with so many workers: each number from 1 to their count stands in one of them, and no other
abbrev pub AreAll : ℕ → List Share → Type 0
AreAll workers shares = AreDrawn 1 (workers + 1) (map (λ s. s.number) shares)
