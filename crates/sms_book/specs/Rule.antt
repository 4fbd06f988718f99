-- The rule of a book's table: the book has an entry for each number, what a holder of a number has is its entry, and each
-- total is the sum over the entries.
use Rattle.std.specs.Prelude.{◌≡◌, ℕ, zero, suc, ◌+◌, List, [], ◌∷◌, map, replicate, length, slice_get, slice_set, Some, true, false}
use mathlib.Core.Option.{some}
use lib.ListN.{get_elem?}
use Rattle.atomic_table.specs.Table.{State, Me}
use Rattle.sms_book.specs.declared.rule.Portion.{Portion}
use Rattle.sms_book.specs.declared.rule.Entry.{Entry}
use Rattle.sms_book.specs.declared.rule.View.{View}
use Rattle.sms_book.specs.declared.rule.View.TheVariants.{Book, Lent, Holder, Spent}
use Rattle.sms_book.specs.declared.rule.Opened.{Opened}
use Rattle.sms_book.specs.Portions.{nothing, of_till}
use Rattle.sms_book.specs.Sums.{AddUp}

-- an entry whose number is with the book, and one whose number is with its holder
abbrev pub at_home : List Portion → Entry
at_home ps = record { here = true; portions = ps }

abbrev pub away : List Portion → Entry
away ps = record { here = false; portions = ps }

-- the till's entry has the opening credits as its top-ups, and each worker's has nothing
abbrev pub opening_entries : List ℕ → ℕ → List Entry
opening_entries credits workers = at_home (map of_till credits) ∷ replicate workers (at_home (replicate (length credits) nothing))

abbrev pub new_book : List ℕ → ℕ → View
new_book credits workers = Book (opening_entries credits workers) (map of_till credits)

abbrev pub opened : Opened → View
opened about = new_book about.credits.items about.workers

-- the portions that a number's entry has
abbrev pub portions_in : List Entry → ℕ → List Portion
portions_in [] k = []
portions_in (e ∷ es) zero = e.portions
portions_in (e ∷ es) (suc k) = portions_in es k

-- the view is the book's, and these are its entries; a number that it was lent is with it
abbrev pub HasEntries : View → List Entry → Type 0
HasEntries (Book xs us) es = xs ≡ es
HasEntries (Lent xs us k ps) es = slice_set xs k (at_home ps) ≡ es
HasEntries (Holder k ps) es = ⊥
HasEntries Spent es = ⊥

-- and these are its totals
abbrev pub HasTotals : View → List Portion → Type 0
HasTotals (Book xs us) ts = us ≡ ts
HasTotals (Lent xs us k ps) ts = us ≡ ts
HasTotals (Holder k ps) ts = ⊥
HasTotals Spent ts = ⊥

-- the seat is the first, the book's, and has these entries and totals
pub record IsBooks (es : List Entry) (ts : List Portion) (id : ℕ) (v : View) : Type 0 where
  pub first : id ≡ 0
  pub entries : HasEntries v es
  pub totals : HasTotals v ts

-- what a seat's view has to do with the entries and the totals: the book's has them; a holder's portions are its number's
-- entry, and `holder` knows the seat of each number, so that no two seats hold one
abbrev pub Fits : List Entry → List Portion → (ℕ → ℕ) → ℕ → View → Type 0
Fits es ts holder id (Book xs us) = IsBooks es ts id (Book xs us)
Fits es ts holder id (Lent xs us k ps) = IsBooks es ts id (Lent xs us k ps) × (slice_get xs k ≡ Some (away ps))
Fits es ts holder id (Holder k ps) = (holder k ≡ id) × (slice_get es k ≡ Some (away ps))
Fits es ts holder id Spent = Unit {0}

-- the table as plain data
abbrev pub Shared : Type 0
Shared = State (Unit {0}) View

-- the seat with this number has the view v
abbrev pub IsThere : Shared → ℕ → View → Type 0
IsThere s id v = get_elem? s.views id ≡ some v

-- the book's view is there, with these entries and totals
pub record BookHas (s : Shared) (es : List Entry) (ts : List Portion) : Type 0 where
  pub view : View
  pub there : IsThere s 0 view
  pub entries : HasEntries view es
  pub totals : HasTotals view ts

-- What holds between any two steps on the table of a book with so many accounts and workers
pub record Kept (accounts workers : ℕ) (s : Shared) : Type 0 where
  pub entries : List Entry
  pub totals : List Portion
  pub holder : ℕ → ℕ
  -- the book is there, and each view fits
  pub book : BookHas s entries totals
  pub fits : (id : ℕ) (v : View) → IsThere s id v → Fits entries totals holder id v
  -- a number that is away has a holder
  pub held : (k : ℕ) (ps : List Portion) → slice_get entries k ≡ Some (away ps) → IsThere s (holder k) (Holder k ps)
  -- there is an entry for the till and for each worker, and a total for each account, the sum over the entries
  pub long : length entries ≡ workers + 1
  pub wide : length totals ≡ accounts
  pub sums : AddUp totals entries
  -- the table's one word is as it opened
  pub word : s.words ≡ 0 ∷ []

abbrev pub spent : View
spent = Spent

-- the book takes in a holder's number
abbrev pub lent : View → View → View
lent (Book es ts) (Holder k ps) = Lent es ts k ps
lent (Book es ts) (Book _ _) = Book es ts
lent (Book es ts) (Lent _ _ _ _) = Book es ts
lent (Book es ts) Spent = Book es ts
lent (Lent es ts k ps) w = Lent es ts k ps
lent (Holder k ps) w = Holder k ps
lent Spent w = Spent

-- the number goes out again, with these portions, and the book has these totals
abbrev pub left_after : List Portion → List Portion → View → View
left_after new totals (Lent es ts k ps) = Book (slice_set es k (away new)) totals
left_after new totals (Book es ts) = Book es ts
left_after new totals (Holder k ps) = Holder k ps
left_after new totals Spent = Spent

abbrev pub right_after : List Portion → View → View
right_after new (Lent es ts k ps) = Holder k new
right_after new (Book es ts) = Spent
right_after new (Holder k ps) = Spent
right_after new Spent = Spent

-- a number goes out for the first time
abbrev pub left_dealt : ℕ → View → View
left_dealt k (Book es ts) = Book (slice_set es k (away (portions_in es k))) ts
left_dealt k (Lent es ts q ps) = Lent es ts q ps
left_dealt k (Holder q ps) = Holder q ps
left_dealt k Spent = Spent

abbrev pub right_dealt : ℕ → View → View
right_dealt k (Book es ts) = Holder k (portions_in es k)
right_dealt k (Lent es ts q ps) = Spent
right_dealt k (Holder q ps) = Spent
right_dealt k Spent = Spent

-- what a look at the table tells of a number that the book was lent: it is the number's entry, and each total is the sum
-- over the entries
abbrev pub IsKnown : View → Type 0
IsKnown v = (es : List Entry) (ts : List Portion) (k : ℕ) (ps : List Portion) → v ≡ Lent es ts k ps → (slice_get es k ≡ Some (away ps)) × AddUp ts es

-- a look that changes nothing
abbrev pub Told : Me (Unit {0}) View → Me (Unit {0}) View → Type 0
Told v w = (w ≡ v) × IsKnown v.0

-- the book keeps the number that it was lent
abbrev pub kept_by_book : View → View
kept_by_book (Lent es ts k ps) = Book (slice_set es k (at_home ps)) ts
kept_by_book (Book es ts) = Book es ts
kept_by_book (Holder k ps) = Holder k ps
kept_by_book Spent = Spent

abbrev pub KeptTold : Me (Unit {0}) View → Me (Unit {0}) View → Type 0
KeptTold v w = (w ≡ (kept_by_book v.0, v.1)) × IsKnown v.0

-- no number is with the book
abbrev pub AllAway : List Entry → Type 0
AllAway [] = Unit {0}
AllAway (e ∷ es) = (e.here ≡ false) × AllAway es
