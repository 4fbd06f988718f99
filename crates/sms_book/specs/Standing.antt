-- How a book, its till, its shares and a blank stand on the book's table: what each of these values keeps.
use Rattle.std.specs.Prelude.{◌≡◌, ℕ, ◌+◌, ◌<◌, ◌≤◌, Bool, List, [], ◌∷◌, length, map}
use Rattle.atomic_table.specs.Seated.{TableId}
use Rattle.sms_core.specs.declared.row.Row.{Row}
use Rattle.sms_book.specs.declared.amounts.Amounts.{Amounts}
use Rattle.sms_book.specs.declared.rule.Entry.{Entry}
use Rattle.sms_book.specs.declared.rule.View.{View}
use Rattle.sms_book.specs.declared.rule.View.TheVariants.{Book, Holder}
use Rattle.sms_book.specs.Limits.{most_workers}
use Rattle.sms_book.specs.Name.{BookId}
use Rattle.sms_book.specs.Portions.{of_row, of_till, of_worker}
use Rattle.sms_book.specs.Sums.{AreSound}
use Rattle.sms_book.specs.Alone.{TillFirst, AreOpened}
use Rattle.sms_book.specs.Openings.{AllSmall}
use Rattle.sms_book.specs.Rule.{new_book, AllAway}

-- a book: its table is the name's, and so is its seat's
pub record BookStands (name : BookId) (table seat : TableId) (views : List View) (workers : ℕ) (rows : List Row) : Type 0 where
  pub table_is : table ≡ name.table
  pub word : 0 < name.table.words
  pub seat_is : seat ≡ name.table
  pub accounts : length rows ≡ name.accounts
  pub workers_are : workers ≡ name.workers
  -- each row balances, within its bounds
  pub sound : AreSound rows
  -- no row has fewer top-ups than it opened with, nor more where the book is sealed
  pub opened : AreOpened name.sealed name.opening rows
  -- the seat's totals are the rows', and each number is away
  pub entries : List Entry
  pub view : views ≡ Book entries (map of_row rows) ∷ []
  pub away : AllAway entries
  pub long : length entries ≡ name.workers + 1
  -- the first entry is the till's
  pub till : TillFirst entries

-- the till of a sealed book, or of one that isn't: its seat holds the number 0, with its top-ups
pub record TillStands (sealed : Bool) (name : BookId) (seat : TableId) (views : List View) (topped : List ℕ) : Type 0 where
  pub kind : name.sealed ≡ sealed
  pub seat_is : seat ≡ name.table
  pub accounts : length topped ≡ name.accounts
  pub view : views ≡ Holder 0 (map of_till topped) ∷ []

-- a worker's share: its seat holds a number other than the till's, with its amounts
pub record ShareStands (name : BookId) (seat : TableId) (views : List View) (amounts : List Amounts) : Type 0 where
  pub seat_is : seat ≡ name.table
  pub accounts : length amounts ≡ name.accounts
  pub number : ℕ
  pub worker : 0 < number
  pub view : views ≡ Holder number (map of_worker amounts) ∷ []

-- a book that isn't open yet: its seat has all numbers
pub record BlankStands (table seat : TableId) (views : List View) (workers : ℕ) (credits : List ℕ) : Type 0 where
  pub seat_is : seat ≡ table
  pub word : 0 < table.words
  pub small : AllSmall credits
  pub few : workers ≤ most_workers
  pub view : views ≡ new_book credits workers ∷ []
