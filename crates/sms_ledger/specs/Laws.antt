-- What holds of every ledger, by the definitions alone.
use Rattle.std.specs.Prelude.{◌≡◌, ◌≢◌, ℕ, ◌+◌, ◌≤◌, ◌<◌, ◌==◌, ◌&&◌, Bool, Option, None, is_some, List, ◌∷◌, ◌++◌, Some, sum_by, if◌then◌else◌}
use Rattle.std.specs.Str.{bytes_eq}
use Rattle.sms_ledger.specs.declared.entry.Stand.TheVariants.{Out}
use Rattle.sms_ledger.specs.declared.entry.Statement.{Statement}
use Rattle.sms_ledger.specs.declared.entry.Decision.{Decision}
use Rattle.sms_ledger.specs.declared.entry.Entry.{Entry}
use Rattle.sms_ledger.specs.declared.entry.Entry.TheVariants.{Paid, Taken, Returned, Decided}
use Rattle.sms_ledger.specs.Books.{AreBalanced, IsLedger, books_of, part_name, row_at, stand_of}
use Rattle.sms_ledger.specs.Lines.{IsU64}
use Rattle.sms_ledger.specs.Names.{IsRun}

-- each prefix of a ledger is a ledger
abbrev pub PrefixesAreLedgers : Type 0
PrefixesAreLedgers = (es more : List Entry) → IsLedger (es ++ more) → IsLedger es

-- and each account balances there: what was paid is free, with runs, in doubt or spent, and what is with runs and in doubt is the sum of what each run has
abbrev pub PrefixesBalance : Type 0
PrefixesBalance = (es more : List Entry) → IsLedger (es ++ more) → AreBalanced (books_of es)

-- ---- what entries say of one run and one account

abbrev pub of_pair : List ℕ → List ℕ → List ℕ → List ℕ → ℕ → ℕ
of_pair run account r a n = if bytes_eq run r && bytes_eq account a then n else 0

abbrev pub takings : List ℕ → List ℕ → Entry → ℕ
takings run account (Paid p) = 0
takings run account (Taken t) = of_pair run account t.of.run t.of.account 1
takings run account (Returned b) = 0
takings run account (Decided d) = 0

abbrev pub taken_by : List ℕ → List ℕ → Entry → ℕ
taken_by run account (Paid p) = 0
taken_by run account (Taken t) = of_pair run account t.of.run t.of.account t.credits
taken_by run account (Returned b) = 0
taken_by run account (Decided d) = 0

abbrev pub returns_of : List ℕ → List ℕ → Entry → ℕ
returns_of run account (Paid p) = 0
returns_of run account (Taken t) = 0
returns_of run account (Returned b) = of_pair run account b.of.run b.of.account 1
returns_of run account (Decided d) = 0

abbrev pub brought_by : List ℕ → List ℕ → Entry → ℕ
brought_by run account (Paid p) = 0
brought_by run account (Taken t) = 0
brought_by run account (Returned b) = of_pair run account b.of.run b.of.account (b.free + b.doubt + b.spent)
brought_by run account (Decided d) = 0

abbrev pub doubted_by : List ℕ → List ℕ → Entry → ℕ
doubted_by run account (Paid p) = 0
doubted_by run account (Taken t) = 0
doubted_by run account (Returned b) = of_pair run account b.of.run b.of.account b.doubt
doubted_by run account (Decided d) = 0

abbrev pub decided_of : List ℕ → List ℕ → Entry → ℕ
decided_of run account (Paid p) = 0
decided_of run account (Taken t) = 0
decided_of run account (Returned b) = 0
decided_of run account (Decided d) = of_pair run account d.of.run d.of.account (d.cost)

-- a run takes of an account once, brings back once at most and no more than it took, and no more is decided than was in doubt
pub record IsOnce (run account : List ℕ) (es : List Entry) : Type 0 where
  pub taken : sum_by (takings run account) es ≤ 1
  pub back : sum_by (returns_of run account) es ≤ sum_by (takings run account) es
  pub whole : sum_by (brought_by run account) es ≤ sum_by (taken_by run account) es
  pub decided : sum_by (decided_of run account) es ≤ sum_by (doubted_by run account) es

abbrev pub RunsBringBackOnce : Type 0
RunsBringBackOnce = (es : List Entry) (run account : List ℕ) → IsLedger es → IsOnce run account es

-- a statement has all that its run took, of which nothing came back before
pub record IsWhole (b : Statement) (es : List Entry) : Type 0 where
  pub once : sum_by (takings b.of.run b.of.account) es ≡ 1
  pub whole : sum_by (taken_by b.of.run b.of.account) es ≡ b.free + b.doubt + b.spent
  pub first : sum_by (returns_of b.of.run b.of.account) es ≡ 0

abbrev pub StatementsAreWhole : Type 0
StatementsAreWhole = (es more : List Entry) (b : Statement) → IsLedger (es ++ Returned b ∷ more) → IsWhole b es

-- two runs don't have one credit
abbrev pub RunsHoldApart : Type 0
RunsHoldApart =
    (es : List Entry) (account run other : List ℕ) (n m : ℕ) → IsLedger es → run ≢ other → stand_of run account (books_of es) ≡ Some (Out n) → stand_of other account (books_of es) ≡ Some (Out m)
    → n + m + (row_at account (books_of es)).free ≤ (row_at account (books_of es)).paid

-- ---- payments and parts

abbrev pub has_reference : List ℕ → Option (List ℕ) → ℕ
has_reference reference None = 0
has_reference reference (Some other) = if bytes_eq other reference then 1 else 0

abbrev pub paid_by : List ℕ → Entry → ℕ
paid_by reference (Paid p) = has_reference reference p.reference
paid_by reference (Taken t) = 0
paid_by reference (Returned b) = 0
paid_by reference (Decided d) = 0

-- a payment that has a reference is booked once
abbrev pub PaymentsAreBookedOnce : Type 0
PaymentsAreBookedOnce = (es : List Entry) (reference : List ℕ) → IsLedger es → sum_by (paid_by reference) es ≤ 1

abbrev pub is_part : List ℕ → ℕ → ℕ → Decision → Bool
is_part run message part d = bytes_eq run d.of.run && (message == d.message && part == d.part)

abbrev pub decisions_on : List ℕ → ℕ → ℕ → Entry → ℕ
decisions_on run message part (Paid p) = 0
decisions_on run message part (Taken t) = 0
decisions_on run message part (Returned b) = 0
decisions_on run message part (Decided d) = if is_part run message part d then 1 else 0

-- a part is decided once
abbrev pub PartsAreDecidedOnce : Type 0
PartsAreDecidedOnce = (es : List Entry) (run : List ℕ) (message part : ℕ) → IsLedger es → sum_by (decisions_on run message part) es ≤ 1

-- no part has the name of another, so a part is refused as decided only where it is
abbrev pub PartsAreNamedApart : Type 0
PartsAreNamedApart =
    (run other : List ℕ) (message m part p : ℕ) → IsRun run → IsRun other → IsU64 message → IsU64 m → part < 256 → p < 256 → part_name run message part ≡ part_name other m p → (run ≡ other) × (message ≡ m) × (part ≡ p)

-- ---- accounts

abbrev pub is_account : List ℕ → List ℕ → ℕ
is_account name other = if bytes_eq other name then 1 else 0

-- each account that is opened stands once among those, and no other does
abbrev pub AccountsAreListed : Type 0
AccountsAreListed = (es : List Entry) (name : List ℕ) → IsLedger es → sum_by (is_account name) (books_of es).opened ≡ (if is_some ((books_of es).accounts name) then 1 else 0)

-- and none of them has paid for more than 2^40 credits
abbrev pub AccountsAreBounded : Type 0
AccountsAreBounded = (es : List Entry) (name : List ℕ) → IsLedger es → (row_at name (books_of es)).paid ≤ 0x100_0000_0000
