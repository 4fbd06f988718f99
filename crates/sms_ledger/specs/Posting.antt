-- What a command books, and the octets that it appends to the ledger's file.
use Rattle.std.specs.Prelude.{◌≡◌, ℕ, ◌==◌, ◌&&◌, Bool, true, false, List, [], ◌∷◌, ◌++◌, Option, Some, None, flat_map, if◌then◌else◌}
use Rattle.std.specs.Str.{bytes_eq}
use Rattle.sms_core.specs.declared.row.Row.{Row as RunRow}
use Rattle.sms_ledger.specs.declared.entry.Row.{Row}
use Rattle.sms_ledger.specs.declared.entry.Stand.{Stand}
use Rattle.sms_ledger.specs.declared.entry.Stand.TheVariants.{Out, Back}
use Rattle.sms_ledger.specs.declared.entry.Payment.{Payment}
use Rattle.sms_ledger.specs.declared.entry.Deposit.{Deposit}
use Rattle.sms_ledger.specs.declared.entry.Entry.{Entry}
use Rattle.sms_ledger.specs.declared.entry.Entry.TheVariants.{Paid, Taken, Returned}
use Rattle.sms_ledger.specs.declared.refusal.Refusal.{Refusal}
use Rattle.sms_ledger.specs.Books.{AreBooked, IsBooked, IsRefused, State, Unless, after_all, payment_in, refusal_of, stand_of}
use Rattle.sms_ledger.specs.Text.{entry_text, header_text}

-- ---- a top-up that is booked once

abbrev pub is_deposit : Payment → Deposit → Bool
is_deposit p d = bytes_eq d.account p.account && d.credits == p.credits

abbrev pub is_known_as : Payment → Option Deposit → Bool
is_known_as p None = false
is_known_as p (Some d) = is_deposit p d

-- the same payment is booked, by its reference
abbrev pub is_known : Payment → State → Bool
is_known p s = is_known_as p (payment_in p.reference s.payments)

-- so nothing is
abbrev pub IsKnown : Payment → State → State → Type 0
IsKnown p old new = (is_known p old ≡ true) × (new ≡ old)

-- it is booked, and this is its line
abbrev pub IsToppedUp : ℕ → Payment → State → State → List ℕ → Type 0
IsToppedUp time p old new text = (is_known p old ≡ false) × IsBooked (Paid p) old new × (text ≡ entry_text time (Paid p))

-- it can't be booked, and isn't the same as one that is
abbrev pub Refuses : Payment → State → State → Refusal → Type 0
Refuses p old new r = Unless r ((is_known p old ≡ false) × IsRefused (Paid p) old new r)

-- ---- entries that are booked one after another

abbrev pub lines_of : ℕ → List Entry → List ℕ
lines_of time es = flat_map (entry_text time) es

-- each may follow those before it, and the octets are their lines
pub record ArePosted (time : ℕ) (es : List Entry) (old new : State) (text : List ℕ) : Type 0 where
  pub booked : AreBooked old es
  pub books : new ≡ after_all es old
  pub lines : text ≡ lines_of time es

-- one of them can't, for this cause
pub record StopsAt (es : List Entry) (s : State) (r : Refusal) : Type 0 where
  pub front : List Entry
  pub entry : Entry
  pub rest : List Entry
  pub is : es ≡ front ++ entry ∷ rest
  pub booked : AreBooked s front
  pub refused : refusal_of entry (after_all front s) ≡ Some r

abbrev pub IsStopped : List Entry → State → Refusal → Type 0
IsStopped es s r = Unless r (StopsAt es s r)

-- what goes behind the whole lines of a file: these lines, and before the first one the header
abbrev pub appended_text : List ℕ → List ℕ → List ℕ
appended_text [] lines = header_text ++ lines
appended_text (c ∷ cs) lines = lines

-- ---- what a run takes, and gives back

abbrev pub taking_from : List ℕ → List ℕ → Option Row → List Entry
taking_from run account None = []
taking_from run account (Some row) = if row.free == 0 then [] else Taken (record { of = record { run = run; account = account }; credits = row.free }) ∷ []

-- all free credits of an account
abbrev pub taking_of : List ℕ → State → List ℕ → List Entry
taking_of run s account = taking_from run account (s.accounts account)

abbrev pub takings_of : List ℕ → State → List (List ℕ) → List Entry
takings_of run s accounts = flat_map (taking_of run s) accounts

abbrev pub return_from : List ℕ → List ℕ → RunRow → Option Stand → List Entry
return_from run account row None = []
return_from run account row (Some (Back doubt)) = []
return_from run account row (Some (Out taken)) = Returned (record { of = record { run = run; account = account }; free = row.free; doubt = row.reserved; spent = row.charged }) ∷ []

-- the row of an account of which the run has credits out
abbrev pub return_of : List ℕ → State → List ℕ → RunRow → List Entry
return_of run s account row = return_from run account row (stand_of run account s)

-- of each account in its place
abbrev pub returns_of : List ℕ → State → List (List ℕ) → List RunRow → List Entry
returns_of run s [] rows = []
returns_of run s (account ∷ accounts) [] = []
returns_of run s (account ∷ accounts) (row ∷ rows) = return_of run s account row ++ returns_of run s accounts rows
