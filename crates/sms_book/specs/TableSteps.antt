-- Each kind of step on a book's table as plain data, and runs of such steps in any order.
use Rattle.std.specs.Prelude.{◌≡◌, ℕ, List, [], ◌∷◌, ◌++◌, Some, slice_get, slice_set}
use Rattle.atomic_table.specs.Table.{opening}
use Rattle.sms_book.specs.declared.rule.Portion.{Portion}
use Rattle.sms_book.specs.declared.rule.Entry.{Entry}
use Rattle.sms_book.specs.declared.rule.View.{View}
use Rattle.sms_book.specs.declared.rule.View.TheVariants.{Book, Lent, Holder}
use Rattle.sms_book.specs.Sums.{MoveBy}
use Rattle.sms_book.specs.Rule.{Shared, IsThere, at_home, new_book, spent, lent, left_after, right_after, left_dealt, right_dealt, kept_by_book}

-- the table of a new book, whose seat has all numbers
abbrev pub new_table : List ℕ → ℕ → Shared
new_table credits workers = opening (0 ∷ []) [] (new_book credits workers)

abbrev pub with_views : Shared → List View → Shared
with_views s views = record { words = s.words; homes = s.homes; views = views }

-- The kinds of step. The first number is that of the seat that steps; then comes the seat whose number is taken in, the
-- portions with which a number goes out again and the totals after it, or the number that goes out for the first time
pub data TableStep : Type 0 where
  takes_in : ℕ → ℕ → TableStep
  looks : ℕ → TableStep
  gives_back : ℕ → List Portion → List Portion → TableStep
  deals : ℕ → ℕ → TableStep
  keeps : ℕ → TableStep

-- the book takes in a holder's number
pub record TakesIn (s : Shared) (id other : ℕ) (t : Shared) : Type 0 where
  pub entries : List Entry
  pub totals : List Portion
  pub number : ℕ
  pub portions : List Portion
  pub book : IsThere s id (Book entries totals)
  pub holder : IsThere s other (Holder number portions)
  pub after : t ≡ with_views s (slice_set (slice_set s.views id (lent (Book entries totals) (Holder number portions))) other spent)

-- a look changes nothing
pub record Looks (s : Shared) (id : ℕ) (t : Shared) : Type 0 where
  pub view : View
  pub there : IsThere s id view
  pub after : t ≡ with_views s (slice_set s.views id view)

-- the number that was lent goes out again, with new portions, and the totals move by as much
pub record GivesBack (s : Shared) (id : ℕ) (new totals : List Portion) (t : Shared) : Type 0 where
  pub entries : List Entry
  pub had : List Portion
  pub number : ℕ
  pub portions : List Portion
  pub book : IsThere s id (Lent entries had number portions)
  pub moves : MoveBy portions new had totals
  pub after : t ≡ with_views s (slice_set s.views id (left_after new totals (Lent entries had number portions)) ++ right_after new (Lent entries had number portions) ∷ [])

-- a number goes out for the first time
pub record Deals (s : Shared) (id number : ℕ) (t : Shared) : Type 0 where
  pub entries : List Entry
  pub totals : List Portion
  pub portions : List Portion
  pub book : IsThere s id (Book entries totals)
  pub entry : slice_get entries number ≡ Some (at_home portions)
  pub after : t ≡ with_views s (slice_set s.views id (left_dealt number (Book entries totals)) ++ right_dealt number (Book entries totals) ∷ [])

-- the book keeps the number that it was lent
pub record Keeps (s : Shared) (id : ℕ) (t : Shared) : Type 0 where
  pub entries : List Entry
  pub totals : List Portion
  pub number : ℕ
  pub portions : List Portion
  pub book : IsThere s id (Lent entries totals number portions)
  pub after : t ≡ with_views s (slice_set s.views id (kept_by_book (Lent entries totals number portions)))

abbrev pub Steps : Shared → TableStep → Shared → Type 0
Steps s (takes_in id other) t = TakesIn s id other t
Steps s (looks id) t = Looks s id t
Steps s (gives_back id new totals) t = GivesBack s id new totals t
Steps s (deals id k) t = Deals s id k t
Steps s (keeps id) t = Keeps s id t

-- the book's seat was lent a number, which can go out again with new portions where the totals move by as much
pub record CanGiveBack (views : List View) (new totals : List Portion) : Type 0 where
  pub entries : List Entry
  pub had : List Portion
  pub number : ℕ
  pub portions : List Portion
  pub is : views ≡ Lent entries had number portions ∷ []
  pub moves : MoveBy portions new had totals

-- it has the number, which can go out for the first time
pub record CanDeal (views : List View) (number : ℕ) : Type 0 where
  pub entries : List Entry
  pub totals : List Portion
  pub portions : List Portion
  pub is : views ≡ Book entries totals ∷ []
  pub entry : slice_get entries number ≡ Some (at_home portions)

abbrev pub Runs : Shared → List TableStep → Shared → Type 0
Runs s [] t = t ≡ s
Runs s (step ∷ steps) t = (mid : Shared) × Steps s step mid × Runs mid steps t
