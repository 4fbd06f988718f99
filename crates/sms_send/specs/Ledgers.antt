-- What the program does with a ledger's file, from its octets to those that it appends and to what it prints.
use Rattle.std.specs.Prelude.{◌≡◌, ◌⊎◌, ℕ, List, Option, String, None, Some, false, string_bytes, take}
use Rattle.std.specs.Io.KnownBytes.{Appends, Keeps}
use Rattle.std.specs.declared.alloc.Global.{Global}
use Rattle.std.specs.declared.io.ErrorKind.{ErrorKind}
use Rattle.sms_devices.specs.Ledgers.{Are, FailsToRead, Leaves, Replaces}
use Rattle.sms_devices.specs.declared.ledger.failure.LedgerFailure.{LedgerFailure}
use Rattle.sms_devices.specs.declared.ledger.failure.LedgerFailure.TheVariants.{Unwritten}
use Rattle.sms_files.specs.Output.{WritesFront}
use Rattle.sms_ledger.specs.Balance.{account_text, balance_text}
use Rattle.sms_ledger.specs.Books.{State, refusal_of}
use Rattle.sms_ledger.specs.Lines.{IsEntry, IsFaulty, IsFileOf, IsU64, IsWholeLength}
use Rattle.sms_ledger.specs.Posting.{IsKnown, IsToppedUp, appended_text, is_known}
use Rattle.sms_ledger.specs.declared.entry.Entry.TheVariants.{Paid}
use Rattle.sms_ledger.specs.declared.entry.Payment.{Payment}
use Rattle.sms_ledger.specs.declared.fault.Fault.{Fault as LedgerFault}
use Rattle.sms_ledger.specs.declared.refusal.Refusal.{Refusal}
use Rattle.sms_send.specs.Faults.{fault_of_ledger, fault_of_opening, fault_of_payment, fault_of_use, output_failed}
use Rattle.sms_send.specs.declared.args.ledger_args.TopUpArgs.{TopUpArgs}
use Rattle.sms_send.specs.declared.faults.fault.Fault.{Fault}
use Rattle.sms_send.specs.declared.faults.fault.Fault.TheVariants.{Ledger, OutOfMemory}

-- ---- a file that is held

-- these octets were read of the file, and they are the ledger with these books
pub record IsRead {F : Type 0} (octets : F → Option (List ℕ)) (file : F) (text : List ℕ) (s : State) : Type 0 where
  pub are : Are (octets file) text
  pub books : IsFileOf text s

-- the first fault of the octets that were read of it
pub record HasFlaw {F : Type 0} (octets : F → Option (List ℕ)) (file : F) (flaw : LedgerFault) : Type 0 where
  pub text : List ℕ
  pub are : Are (octets file) text
  pub faulty : IsFaulty text flaw

-- it can't be read, or its octets are no ledger
abbrev pub FailsReading : {F : Type 0} → (ErrorKind → Type 0) → (F → Option (List ℕ)) → F → Fault → Type 0
FailsReading errs octets file fault =
    ((why : LedgerFailure) × FailsToRead errs why × (fault ≡ fault_of_use why)) ⊎ ((flaw : LedgerFault) × HasFlaw octets file flaw × (fault ≡ fault_of_ledger flaw))

-- ---- a payment

-- the line of a payment that isn't booked yet, at some time, stands behind the whole lines that were read; before the first line the header does
pub record IsAppended (p : Payment) (text : List ℕ) (s t : State) (old new : Option (List ℕ)) : Type 0 where
  pub time : ℕ
  pub low : IsU64 time
  pub line : List ℕ
  pub booked : IsToppedUp time p s t line
  pub whole : ℕ
  pub long : IsWholeLength text whole
  pub stands : Replaces old new whole (appended_text (take whole text) line)

-- the line of a payment: none where the same is booked
abbrev pub HasLine : ℕ → Payment → State → State → Option (String Global) → Type 0
HasLine time p s t None = IsKnown p s t
HasLine time p s t (Some line) = IsToppedUp time p s t (string_bytes line)

-- and why there is neither
abbrev pub LacksLine : Payment → State → Fault → Type 0
LacksLine p s fault = (fault ≡ OutOfMemory) ⊎ ((cause : Refusal) × (is_known p s ≡ false) × (refusal_of (Paid p) s ≡ Some cause) × (fault ≡ fault_of_payment cause))

-- a line stands behind the whole lines that were read, and before the first line the header; without a line the octets are those that were there
abbrev pub Takes : List ℕ → Option (List ℕ) → Option (List ℕ) → Option (String Global) → Type 0
Takes text old new None = Keeps old new
Takes text old new (Some line) = (whole : ℕ) × IsWholeLength text whole × Replaces old new whole (appended_text (take whole text) (string_bytes line))

-- the device answers an error where it is to make durable what stands in a file
abbrev pub FailsToKeep : (ErrorKind → Type 0) → Fault → Type 0
FailsToKeep errs fault = (kind : ErrorKind) × errs kind × (fault ≡ Ledger (Unwritten kind))

-- or nothing was done, or an append failed
abbrev pub FailsToTake : (ErrorKind → Type 0) → List ℕ → Option (List ℕ) → Option (List ℕ) → Option (String Global) → Fault → Type 0
FailsToTake errs text old new line fault =
    (Keeps old new × ((fault ≡ OutOfMemory) ⊎ FailsToKeep errs fault))
    ⊎ ((written : String Global) × (line ≡ Some written) × (whole : ℕ) × IsWholeLength text whole × (why : LedgerFailure) × Leaves errs old new whole (appended_text (take whole text) (string_bytes written)) why × (fault ≡ Ledger why))

-- the payment is in the file, and the disk has it: it was there, and nothing else was done to the file; or it is appended. The balance of its account
-- then is printed
pub record Books {F : Type 0} (octets stored : F → Option (List ℕ)) (p : Payment) (old new : F) (printed : List ℕ) : Type 0 where
  pub text : List ℕ
  pub before : State
  pub after : State
  pub read : IsRead octets old text before
  pub booked : (IsKnown p before after × Keeps (octets old) (octets new)) ⊎ IsAppended p text before after (octets old) (octets new)
  pub durable : stored new ≡ octets new
  pub prints : printed ≡ account_text after p.account

-- the ledger refuses the payment for this cause
pub record RefusesPayment {F : Type 0} (octets : F → Option (List ℕ)) (p : Payment) (file : F) (cause : Refusal) : Type 0 where
  pub text : List ℕ
  pub books : State
  pub read : IsRead octets file text books
  pub unknown : is_known p books ≡ false
  pub refused : refusal_of (Paid p) books ≡ Some cause

-- its line couldn't be appended
pub record FailsAppend {F : Type 0} (errs : ErrorKind → Type 0) (octets : F → Option (List ℕ)) (p : Payment) (old new : F) (why : LedgerFailure) : Type 0 where
  pub text : List ℕ
  pub before : State
  pub after : State
  pub read : IsRead octets old text before
  pub time : ℕ
  pub line : List ℕ
  pub booked : IsToppedUp time p before after line
  pub whole : ℕ
  pub long : IsWholeLength text whole
  pub leaves : Leaves errs (octets old) (octets new) whole (appended_text (take whole text) line) why

-- nothing is booked, and the file has the octets that it had: it can't be read, the ledger refuses the payment, memory was refused, or the device
-- answered an error. Where that was while the line was appended, the file is left as an append that failed leaves it
abbrev pub FailsBooking : {F : Type 0} → (ErrorKind → Type 0) → (F → Option (List ℕ)) → Payment → F → F → Fault → Type 0
FailsBooking errs octets p old new fault =
    (Keeps (octets old) (octets new) × (FailsReading errs octets old fault
    ⊎ ((cause : Refusal) × RefusesPayment octets p old cause × (fault ≡ fault_of_payment cause))
    ⊎ FailsToKeep errs fault
    ⊎ (fault ≡ OutOfMemory)))
    ⊎ ((why : LedgerFailure) × FailsAppend errs octets p old new why × (fault ≡ Ledger why))

-- ---- the jobs

-- the ledger's file of a name was opened so, and closed so
pub record WasOpen {F : Type 0} (holds : List ℕ → F → Type 0) (opening : F → ℕ) (is_closed : F → Type 0) (name : List ℕ) (first last : F) : Type 0 where
  pub held : holds name first
  pub same : opening last ≡ opening first
  pub closed : is_closed last

-- the payment that is asked for is in the ledger, and the balance of its account is printed
pub record TopsUp {F : Type 0} (holds : List ℕ → F → Type 0) (octets stored : F → Option (List ℕ)) (opening : F → ℕ) (is_closed : F → Type 0) (order : TopUpArgs) (old new : Option (List ℕ)) : Type 0 where
  pub first : F
  pub last : F
  pub opened : WasOpen holds opening is_closed (string_bytes order.ledger) first last
  pub printed : List ℕ
  pub books : Books octets stored order.payment first last printed
  pub out : Appends old new printed

-- it is in the ledger, but the balance can't be printed
pub record LosesBalance {F : Type 0} (holds : List ℕ → F → Type 0) (octets stored : F → Option (List ℕ)) (opening : F → ℕ) (is_closed : F → Type 0) (order : TopUpArgs) (old new : Option (List ℕ)) : Type 0 where
  pub first : F
  pub last : F
  pub opened : WasOpen holds opening is_closed (string_bytes order.ledger) first last
  pub printed : List ℕ
  pub books : Books octets stored order.payment first last printed
  pub out : WritesFront old new printed

-- it isn't booked
pub record BooksNothing {F : Type 0} (holds : List ℕ → F → Type 0) (errs : ErrorKind → Type 0) (octets : F → Option (List ℕ)) (opening : F → ℕ) (is_closed : F → Type 0) (order : TopUpArgs) (fault : Fault) : Type 0 where
  pub first : F
  pub last : F
  pub opened : WasOpen holds opening is_closed (string_bytes order.ledger) first last
  pub fails : FailsBooking errs octets order.payment first last fault

-- the ledger's file of a name can't be had
abbrev pub LacksLedger : (List ℕ → LedgerFailure → Type 0) → String Global → Fault → Type 0
LacksLedger lacks name fault = (why : LedgerFailure) × lacks (string_bytes name) why × (fault ≡ fault_of_opening name why)

abbrev pub FailsTopUp : {F : Type 0} → (List ℕ → F → Type 0) → (List ℕ → LedgerFailure → Type 0) → (ErrorKind → Type 0) → (F → Option (List ℕ)) → (F → Option (List ℕ)) → (F → ℕ) → (F → Type 0) → TopUpArgs → Option (List ℕ) → Option (List ℕ) → Fault → Type 0
FailsTopUp holds lacks errs octets stored opening is_closed order old new fault =
    LacksLedger lacks order.ledger fault ⊎ BooksNothing holds errs octets opening is_closed order fault ⊎ (LosesBalance holds octets stored opening is_closed order old new × (fault ≡ output_failed))

-- where the credits of each account are was read of the ledger's file, and is printed
pub record PrintsBalance {F : Type 0} (holds : List ℕ → F → Type 0) (octets : F → Option (List ℕ)) (name : List ℕ) (old new : Option (List ℕ)) : Type 0 where
  pub file : F
  pub held : holds name file
  pub text : List ℕ
  pub books : State
  pub read : IsRead octets file text books
  pub out : Appends old new (balance_text books)

-- it can't be had or read, it is no ledger, memory was refused, or the output failed
pub record LosesTable {F : Type 0} (holds : List ℕ → F → Type 0) (octets : F → Option (List ℕ)) (name : List ℕ) (old new : Option (List ℕ)) : Type 0 where
  pub file : F
  pub held : holds name file
  pub text : List ℕ
  pub books : State
  pub read : IsRead octets file text books
  pub out : WritesFront old new (balance_text books)

abbrev pub FailsBalance : {F : Type 0} → (List ℕ → F → Type 0) → (List ℕ → LedgerFailure → Type 0) → (ErrorKind → Type 0) → (F → Option (List ℕ)) → String Global → Option (List ℕ) → Option (List ℕ) → Fault → Type 0
FailsBalance {F} holds lacks errs octets name old new fault =
    LacksLedger lacks name fault ⊎ ((file : F) × holds (string_bytes name) file × FailsReading errs octets file fault) ⊎ (fault ≡ OutOfMemory)
    ⊎ (LosesTable holds octets (string_bytes name) old new × (fault ≡ output_failed))

-- ---- what holds of every payment

-- what stands in a file once a payment was appended is the ledger with that payment
abbrev pub PaymentsStand : Type 0
PaymentsStand = (p : Payment) (text after : List ℕ) (s t : State) → IsEntry (Paid p) → IsFileOf text s → IsAppended p text s t (Some text) (Some after) → IsFileOf after t
