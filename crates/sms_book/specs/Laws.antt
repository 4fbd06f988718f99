-- What holds of every book, and of its table over every state that meets its rule and over every run of steps.
use Rattle.std.specs.Prelude.{◌≡◌, ℕ, ◌+◌, ◌<◌, List, [], ◌∷◌, length, Some, slice_get}
use Rattle.sms_core.specs.declared.row.Row.{Row}
use Rattle.sms_core.specs.Rows.{IsBalanced}
use Rattle.sms_book.specs.declared.amounts.Amounts.{Amounts}
use Rattle.sms_book.specs.declared.rule.Portion.{Portion}
use Rattle.sms_book.specs.declared.rule.Entry.{Entry}
use Rattle.sms_book.specs.declared.rule.View.{View}
use Rattle.sms_book.specs.declared.rule.View.TheVariants.{Lent, Holder}
use Rattle.sms_book.specs.Portions.{no_amounts, amounts_at, portion_at, row_at}
use Rattle.sms_book.specs.Shares.{Share, blank_share, opening_shares, AreAll}
use Rattle.sms_book.specs.Sums.{total, over_shares, AddUp, MoveBy}
use Rattle.sms_book.specs.Rule.{at_home, away, HasEntries, Shared, IsThere, BookHas, Kept}
use Rattle.sms_book.specs.TableSteps.{new_table, TableStep, takes_in, looks, gives_back, deals, keeps, Steps, Runs}

-- each account's top-ups are its free, reserved and charged credits
abbrev pub EachBalanced : List Row → Type 0
EachBalanced rows = (i : ℕ) → i < length rows → IsBalanced (row_at rows i)

-- What holds between any two steps, of a book with so many accounts and workers
pub record IsOrderly (accounts workers : ℕ) (s : Shared) : Type 0 where
  -- the book is there, with an entry for the till and for each worker, and a total for each account
  pub entries : List Entry
  pub totals : List Portion
  pub book : BookHas s entries totals
  pub long : length entries ≡ workers + 1
  pub wide : length totals ≡ accounts
  -- each of its totals is the sum over its entries
  pub sums : AddUp totals entries
  -- no other seat has entries
  pub one_book : (id : ℕ) (v : View) (es : List Entry) → IsThere s id v → HasEntries v es → id ≡ 0
  -- the book has an entry for each number that a seat holds, and what that seat has is the entry
  pub entry : (id k : ℕ) (ps : List Portion) → IsThere s id (Holder k ps) → slice_get entries k ≡ Some (away ps)
  -- a number that is away has a holder
  pub held : (k : ℕ) (ps : List Portion) → slice_get entries k ≡ Some (away ps) → (id : ℕ) × IsThere s id (Holder k ps)
  -- and no other
  pub one_holder : (id other k : ℕ) (ps qs : List Portion) → IsThere s id (Holder k ps) → IsThere s other (Holder k qs) → id ≡ other
  -- a number that is with the book has none
  pub home : (id k : ℕ) (ps qs : List Portion) → slice_get entries k ≡ Some (at_home ps) → ¬ IsThere s id (Holder k qs)
  -- the table's one word never changes
  pub word : s.words ≡ 0 ∷ []

abbrev pub RuleIsOrderly : Type 0
RuleIsOrderly = (accounts workers : ℕ) (s : Shared) → Kept accounts workers s → IsOrderly accounts workers s

abbrev pub OpeningMeetsRule : Type 0
OpeningMeetsRule = (credits : List ℕ) (workers : ℕ) → Kept (length credits) workers (new_table credits workers)

abbrev pub StepKeepsRule : Type 0
StepKeepsRule = (accounts workers : ℕ) (s : Shared) (step : TableStep) (t : Shared) → Kept accounts workers s → Steps s step t → Kept accounts workers t

abbrev pub RunIsOrderly : Type 0
RunIsOrderly = (credits : List ℕ) (workers : ℕ) (steps : List TableStep) (t : Shared) → Runs (new_table credits workers) steps t → IsOrderly (length credits) workers t

-- the number that the book was lent goes out again, and one amount of an account changes by as much as its holder's
pub record MovesTotal (f : Portion → ℕ) (i : ℕ) (s : Shared) (id : ℕ) (new : List Portion) (es fs : List Entry) : Type 0 where
  pub entries : List Entry
  pub totals : List Portion
  pub number : ℕ
  pub had : List Portion
  pub there : IsThere s id (Lent entries totals number had)
  pub moves : total f i fs + f (portion_at had i) ≡ total f i es + f (portion_at new i)

-- One amount of an account, summed over all entries, before and after a step: it changes only where a number goes out
-- again, and by as much as what its holder has of the account changes
abbrev pub TotalSteps : (Portion → ℕ) → ℕ → Shared → TableStep → List Entry → List Entry → Type 0
TotalSteps f i s (takes_in id other) es fs = total f i fs ≡ total f i es
TotalSteps f i s (looks id) es fs = total f i fs ≡ total f i es
TotalSteps f i s (gives_back id new totals) es fs = MovesTotal f i s id new es fs
TotalSteps f i s (deals id k) es fs = total f i fs ≡ total f i es
TotalSteps f i s (keeps id) es fs = total f i fs ≡ total f i es

abbrev pub StepMovesTotals : Type 0
StepMovesTotals = (accounts workers : ℕ) (s : Shared) (step : TableStep) (t : Shared) (es fs : List Entry) (ts us : List Portion) (f : Portion → ℕ) (i : ℕ) → Kept accounts workers s → Steps s step t
    → BookHas s es ts → BookHas t fs us → TotalSteps f i s step es fs

-- and the book's totals, from ts to us, by as much as what its holder has
pub record MovesBookTotals (s : Shared) (id : ℕ) (new totals ts us : List Portion) : Type 0 where
  pub is : us ≡ totals
  pub entries : List Entry
  pub number : ℕ
  pub had : List Portion
  pub there : IsThere s id (Lent entries ts number had)
  pub moves : MoveBy had new ts us

-- The book's totals before and after a step: they change only where a number goes out again, each by as much as what its
-- holder has of the account changes
abbrev pub BookTotalsMove : Shared → TableStep → List Portion → List Portion → Type 0
BookTotalsMove s (takes_in id other) ts us = us ≡ ts
BookTotalsMove s (looks id) ts us = us ≡ ts
BookTotalsMove s (gives_back id new totals) ts us = MovesBookTotals s id new totals ts us
BookTotalsMove s (deals id k) ts us = us ≡ ts
BookTotalsMove s (keeps id) ts us = us ≡ ts

abbrev pub StepMovesBookTotals : Type 0
StepMovesBookTotals = (accounts workers : ℕ) (s : Shared) (step : TableStep) (t : Shared) (es fs : List Entry) (ts us : List Portion) → Kept accounts workers s → Steps s step t
    → BookHas s es ts → BookHas t fs us → BookTotalsMove s step ts us

-- the shares of a book that was just opened: each has its number, from 1 on, and moved nothing
pub record AreBlank (accounts workers : ℕ) (shares : List Share) : Type 0 where
  pub count : length shares ≡ workers
  pub each : (k : ℕ) → k < workers → slice_get shares k ≡ Some (blank_share accounts (k + 1))
  pub all : AreAll workers shares
  pub nothing : (f : Amounts → ℕ) (i : ℕ) → f no_amounts ≡ 0 → over_shares f i shares ≡ 0

-- a share that moved nothing has nothing of any account
abbrev pub OpeningSharesAreBlank : Type 0
OpeningSharesAreBlank = (accounts workers : ℕ) → AreBlank accounts workers (opening_shares accounts workers) × ((number i : ℕ) → amounts_at (blank_share accounts number).amounts i ≡ no_amounts)
