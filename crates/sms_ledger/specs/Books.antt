-- The books: what a ledger's entries make of an account and of what runs took, and which entry may follow.
use Rattle.std.specs.Prelude.{◌≡◌, ℕ, ◌+◌, ◌-◌, ◌==◌, ◌&&◌, nat_le, Bool, true, false, List, [], ◌∷◌, ◌++◌, Option, Some, None, option_map, unwrap_or, sum_by, find, if◌then◌else◌}
use Rattle.std.specs.Str.{bytes_eq}
use Rattle.sms_ledger.specs.declared.entry.Row.{Row}
use Rattle.sms_ledger.specs.declared.entry.Deposit.{Deposit}
use Rattle.sms_ledger.specs.declared.entry.Fate.{Fate}
use Rattle.sms_ledger.specs.declared.entry.Fate.TheVariants.{Delivered, Lost}
use Rattle.sms_ledger.specs.declared.entry.Stake.{Stake}
use Rattle.sms_ledger.specs.declared.entry.Stand.{Stand}
use Rattle.sms_ledger.specs.declared.entry.Stand.TheVariants.{Out, Back}
use Rattle.sms_ledger.specs.declared.entry.Entry.{Entry}
use Rattle.sms_ledger.specs.declared.entry.Entry.TheVariants.{Paid, Taken, Returned, Decided}
use Rattle.sms_ledger.specs.declared.refusal.Refusal.{Refusal}
use Rattle.sms_ledger.specs.Text.{number_field}
use Rattle.sms_ledger.specs.declared.refusal.Refusal.TheVariants.{NothingPaid, PaidBefore, TooMuch, NoAccount, NoCredit, TakenBefore, NotTaken, BackBefore, NotBack, Unequal, DecidedBefore, NoDoubt, OutOfMemory}

-- ---- what is known

pub record State : Type 0 where
  -- the row of an account, once it is opened
  pub accounts : List ℕ → Option Row
  -- the accounts, in the order in which they were opened
  pub opened : List (List ℕ)
  -- what each run took of each account, and how it stands, in the order in which it was taken
  pub stakes : List Stake
  -- what was paid, by the payment's reference
  pub payments : List ℕ → Option Deposit
  -- what became of parts that were in doubt, by the part's name
  pub decided : List ℕ → Option Fate

abbrev pub nothing : State
nothing = record { accounts = λ _. None; opened = []; stakes = []; payments = λ _. None; decided = λ _. None }

abbrev pub no_row : Row
no_row = record { paid = 0; free = 0; out = 0; doubt = 0; spent = 0 }

-- the row of an account, and of one that isn't opened
abbrev pub row_at : List ℕ → State → Row
row_at name s = unwrap_or (s.accounts name) no_row

abbrev pub is_of : List ℕ → List ℕ → Stake → Bool
is_of run account stake = bytes_eq run stake.of.run && bytes_eq account stake.of.account

-- what the run took of the account
abbrev pub stake_of : List ℕ → List ℕ → List Stake → Option Stake
stake_of run account stakes = find (is_of run account) stakes

-- how it stands
abbrev pub stand_of : List ℕ → List ℕ → State → Option Stand
stand_of run account s = option_map (λ (stake : Stake). stake.stand) (stake_of run account s.stakes)

abbrev pub stands_out : Stand → Bool
stands_out (Out taken) = true
stands_out (Back doubt) = false

-- the run has them out still
abbrev pub is_out : Stake → Bool
is_out stake = stands_out stake.stand

-- ---- which entry may follow, and why another may not

abbrev pub payment_in : Option (List ℕ) → (List ℕ → Option Deposit) → Option Deposit
payment_in None payments = None
payment_in (Some reference) payments = payments reference

-- the name of a part: its run, message and place
abbrev pub part_name : List ℕ → ℕ → ℕ → List ℕ
part_name run message part = run ++ number_field message ++ number_field part

-- at most 2^40 credits are paid for an account in all
abbrev pub sum_refusal : Option Deposit → ℕ → Option Refusal
sum_refusal (Some deposit) sum = Some PaidBefore
sum_refusal None sum = if nat_le sum 0x100_0000_0000 then None else Some TooMuch

abbrev pub paid_refusal : ℕ → Option Deposit → ℕ → Option Refusal
paid_refusal credits deposit sum = if credits == 0 then Some NothingPaid else sum_refusal deposit sum

abbrev pub taken_refusal : ℕ → Option Row → Option Stand → Option Refusal
taken_refusal credits None stand = Some NoAccount
taken_refusal credits (Some row) (Some stand) = Some TakenBefore
taken_refusal credits (Some row) None = if nat_le credits row.free then None else Some NoCredit

abbrev pub back_refusal : ℕ → Option Stand → Option Refusal
back_refusal sum None = Some NotTaken
back_refusal sum (Some (Out taken)) = if sum == taken then None else Some Unequal
back_refusal sum (Some (Back doubt)) = Some BackBefore

abbrev pub doubt_refusal : ℕ → Option Stand → Option Refusal
doubt_refusal cost None = Some NotTaken
doubt_refusal cost (Some (Out taken)) = Some NotBack
doubt_refusal cost (Some (Back doubt)) = if nat_le cost doubt then None else Some NoDoubt

abbrev pub decided_refusal : Option Fate → ℕ → Option Stand → Option Refusal
decided_refusal (Some fate) cost stand = Some DecidedBefore
decided_refusal None cost stand = doubt_refusal cost stand

-- nothing where the entry may follow, and else the cause
abbrev pub refusal_of : Entry → State → Option Refusal
refusal_of (Paid p) s = paid_refusal p.credits (payment_in p.reference s.payments) ((row_at p.account s).paid + p.credits)
refusal_of (Taken t) s = taken_refusal t.credits (s.accounts t.of.account) (stand_of t.of.run t.of.account s)
refusal_of (Returned b) s = back_refusal (b.free + b.doubt + b.spent) (stand_of b.of.run b.of.account s)
refusal_of (Decided d) s = decided_refusal (s.decided (part_name d.of.run d.message d.part)) d.cost (stand_of d.of.run d.of.account s)

-- ---- what it makes of them

abbrev pub pay_in : ℕ → Row → Row
pay_in n row = record row { paid = row.paid + n; free = row.free + n }

abbrev pub take_out : ℕ → Row → Row
take_out n row = record row { free = row.free - n; out = row.out + n }

abbrev pub bring_back : ℕ → ℕ → ℕ → Row → Row
bring_back f d c row = record row { free = row.free + f; out = row.out - (f + d + c); doubt = row.doubt + d; spent = row.spent + c }

abbrev pub settle : Fate → ℕ → Row → Row
settle Delivered n row = record row { doubt = row.doubt - n; spent = row.spent + n }
settle Lost n row = record row { free = row.free + n; doubt = row.doubt - n }

-- one account's row is changed, where it is opened
abbrev pub moved : List ℕ → (Row → Row) → (List ℕ → Option Row) → List ℕ → Option Row
moved name f accounts other = if bytes_eq name other then option_map f (accounts other) else accounts other

-- a payment opens its account where that is none yet
abbrev pub with_paid : List ℕ → ℕ → (List ℕ → Option Row) → List ℕ → Option Row
with_paid name n accounts other = if bytes_eq name other then Some (pay_in n (unwrap_or (accounts other) no_row)) else accounts other

-- the accounts that are opened, where one is paid for
abbrev pub with_opened : List ℕ → Option Row → List (List ℕ) → List (List ℕ)
with_opened name None opened = opened ++ name ∷ []
with_opened name (Some row) opened = opened

-- a payment without a reference can't be asked for
abbrev pub with_payment : Option (List ℕ) → Deposit → (List ℕ → Option Deposit) → List ℕ → Option Deposit
with_payment None deposit payments other = payments other
with_payment (Some reference) deposit payments other = if bytes_eq reference other then Some deposit else payments other

abbrev pub with_fate : List ℕ → Fate → (List ℕ → Option Fate) → List ℕ → Option Fate
with_fate part fate decided other = if bytes_eq part other then Some fate else decided other

-- the first stake of the run and the account stands so
abbrev pub with_stand : List ℕ → List ℕ → Stand → List Stake → List Stake
with_stand run account stand [] = []
with_stand run account stand (x ∷ xs) = if is_of run account x then record x { stand = stand } ∷ xs else x ∷ with_stand run account stand xs

-- what is left in doubt
abbrev pub less : ℕ → Option Stand → Stand
less n None = Back 0
less n (Some (Out taken)) = Out taken
less n (Some (Back doubt)) = Back (doubt - n)

abbrev pub after : Entry → State → State
after (Paid p) s = record s {
  accounts = with_paid p.account p.credits s.accounts;
  opened = with_opened p.account (s.accounts p.account) s.opened;
  payments = with_payment p.reference (record { account = p.account; credits = p.credits }) s.payments;
}
after (Taken t) s = record s {
  accounts = moved t.of.account (take_out t.credits) s.accounts;
  stakes = s.stakes ++ record { of = t.of; stand = Out t.credits } ∷ [];
}
after (Returned b) s = record s {
  accounts = moved b.of.account (bring_back b.free b.doubt b.spent) s.accounts;
  stakes = with_stand b.of.run b.of.account (Back b.doubt) s.stakes;
}
after (Decided d) s = record s {
  accounts = moved d.of.account (settle d.fate d.cost) s.accounts;
  stakes = with_stand d.of.run d.of.account (less d.cost (stand_of d.of.run d.of.account s)) s.stakes;
  decided = with_fate (part_name d.of.run d.message d.part) d.fate s.decided;
}

-- ---- ledgers

-- each of these entries may follow those before it
abbrev pub AreBooked : State → List Entry → Type 0
AreBooked s [] = Unit {0}
AreBooked s (e ∷ es) = (refusal_of e s ≡ None) × AreBooked (after e s) es

abbrev pub after_all : List Entry → State → State
after_all [] s = s
after_all (e ∷ es) s = after_all es (after e s)

abbrev pub IsLedger : List Entry → Type 0
IsLedger es = AreBooked nothing es

abbrev pub books_of : List Entry → State
books_of es = after_all es nothing

-- ---- what always holds of an account

-- credits of the account that a run has out, and those in doubt
abbrev pub out_of : Stand → ℕ
out_of (Out taken) = taken
out_of (Back doubt) = 0

abbrev pub doubt_of : Stand → ℕ
doubt_of (Out taken) = 0
doubt_of (Back doubt) = doubt

abbrev pub part : (Stand → ℕ) → List ℕ → Stake → ℕ
part f name stake = if bytes_eq stake.of.account name then f stake.stand else 0

abbrev pub over : (Stand → ℕ) → List ℕ → List Stake → ℕ
over f name stakes = sum_by (part f name) stakes

-- each credit that was paid is in exactly one place: free, with a run, in doubt, or spent
pub record IsBalanced (row : Row) (name : List ℕ) (stakes : List Stake) : Type 0 where
  pub balance : row.paid ≡ row.free + row.out + row.doubt + row.spent
  pub outs : row.out ≡ over out_of name stakes
  pub doubts : row.doubt ≡ over doubt_of name stakes

abbrev pub AreBalanced : State → Type 0
AreBalanced s = (name : List ℕ) → IsBalanced (row_at name s) name s.stakes

-- ---- what a booking does

-- the entry may follow, and the books are those after it
abbrev pub IsBooked : Entry → State → State → Type 0
IsBooked e old new = (refusal_of e old ≡ None) × (new ≡ after e old)

-- nothing is said where memory is refused
abbrev pub Unless : Refusal → Type 0 → Type 0
Unless NothingPaid p = p
Unless PaidBefore p = p
Unless TooMuch p = p
Unless NoAccount p = p
Unless NoCredit p = p
Unless TakenBefore p = p
Unless NotTaken p = p
Unless BackBefore p = p
Unless NotBack p = p
Unless Unequal p = p
Unless DecidedBefore p = p
Unless NoDoubt p = p
Unless (OutOfMemory refused) p = Unit {0}

-- this is the cause why the entry can't follow, and the books are as they were
abbrev pub IsRefused : Entry → State → State → Refusal → Type 0
IsRefused e old new r = Unless r ((refusal_of e old ≡ Some r) × (new ≡ old))
