-- What `send`, `resume`, `settle` and `decide` do on a ledger, and why they fail.
use Rattle.std.specs.Prelude.{◌≡◌, ◌⊎◌, ℕ, Bool, true, false, List, [], Option, Some, None, String, string_bytes}
use Rattle.std.specs.declared.alloc.Global.{Global}
use Rattle.std.specs.declared.io.ErrorKind.{ErrorKind}
use Rattle.std.specs.Io.KnownBytes.{Appends}
use Rattle.sms_book.specs.declared.opening.Opening.{Opening}
use Rattle.sms_core.specs.declared.row.Row.{Row as RunRow}
use Rattle.sms_devices.specs.declared.ledger.failure.LedgerFailure.{LedgerFailure}
use Rattle.sms_files.specs.Fields.{records_of}
use Rattle.sms_files.specs.Inputs.{Told}
use Rattle.sms_files.specs.Output.{WritesFront}
use Rattle.sms_journal.specs.Decided.{AreDecisions, IsFaultOfDecisions}
use Rattle.sms_journal.specs.OfLedger.{HaveNames, IsCutHead}
use Rattle.sms_journal.specs.declared.decisions.fault.DecisionFault.{DecisionFault}
use Rattle.sms_journal.specs.declared.recovery.resuming.JournaledRun.{JournaledRun}
use Rattle.sms_ledger.specs.Books.{State}
use Rattle.sms_ledger.specs.Decisions.{undecided}
use Rattle.sms_ledger.specs.Posting.{returns_of}
use Rattle.sms_ledger.specs.declared.entry.Decision.{Decision}
use Rattle.sms_ledger.specs.declared.refusal.Refusal.TheVariants.{NoAccount}
use Rattle.sms_send.specs.Faults.{fault_of_decisions, output_failed}
use Rattle.sms_send.specs.LedgerRuns.{FailsPosting, Posts}
use Rattle.sms_send.specs.Ledgers.{LacksLedger, WasOpen}
use Rattle.sms_send.specs.Opened.{FailsReadingFile, OfFile}
use Rattle.sms_send.specs.Resumed.{FailsNotedRun, FailsOpen, IsNotedRun}
use Rattle.sms_send.specs.Runs.{FailsNamed, IsRun}
use Rattle.sms_send.specs.declared.args.ledger_run_args.DecideArgs.{DecideArgs}
use Rattle.sms_send.specs.declared.args.ledger_run_args.SettleArgs.{SettleArgs}
use Rattle.sms_send.specs.declared.faults.fault.Fault.{Fault}
use Rattle.sms_send.specs.declared.faults.fault.Fault.TheVariants.{Booking, LedgerRun, OutOfMemory}
use Rattle.sms_send.specs.declared.faults.ledger_run.LedgerRunFlaw.TheVariants.{NoLedger, NotOut}
use Rattle.sms_send.specs.declared.files.run_files.RunFiles.{RunFiles}
use Rattle.sms_send.specs.declared.jobs.ledger_run.LedgerRun.{LedgerRun as TheRun}

-- ---- a run of a ledger, by its journal

-- an account can't have a name in a ledger, or memory ran out
abbrev pub LacksNames : List Opening → Fault → Type 0
LacksNames openings fault = (fault ≡ OutOfMemory) ⊎ ((fault ≡ Booking NoAccount) × ((names : List (List ℕ)) → ¬ HaveNames openings names))

-- the files are those of a run or a trial of a ledger, and its journal says this of it
pub record IsLedgerRun (files : RunFiles) (read : TheRun) : Type 0 where
  pub name : files.run ≡ Some read.name
  pub accounts : HaveNames read.run.openings.items read.accounts.items
  pub journaled : IsNotedRun files read.run

-- they are of none, or the journal is none of a run of them
abbrev pub FailsLedgerRun : Bool → RunFiles → Fault → Type 0
FailsLedgerRun strict files fault =
    ((fault ≡ LedgerRun NoLedger) × (files.run ≡ None)) ⊎ (fault ≡ OutOfMemory) ⊎ FailsNotedRun strict files fault ⊎ ((run : JournaledRun) × IsNotedRun files run × LacksNames run.openings.items fault)

-- by the names of the config and of the journal
abbrev pub IsLedgerRunBy : (List ℕ → Option Told → Type 0) → List ℕ → List ℕ → TheRun → Type 0
IsLedgerRunBy finds config journal read = (files : RunFiles) × IsRun finds config journal files × IsLedgerRun files read

abbrev pub FailsLedgerRunBy : (List ℕ → Option Told → Type 0) → List ℕ → List ℕ → Fault → Type 0
FailsLedgerRunBy finds config journal fault =
    (fault ≡ OutOfMemory) ⊎ FailsNamed finds config journal fault ⊎ ((files : RunFiles) × IsRun finds config journal files × FailsLedgerRun false files fault)

-- ---- what is booked in the ledger of a name

-- the file of a ledger's name was opened, so much was done to it, and it was closed
pub record DoneIn {F : Type 0} (holds : List ℕ → F → Type 0) (opening : F → ℕ) (is_closed : F → Type 0) (name : List ℕ) (P : F → F → Type 0) : Type 0 where
  pub first : F
  pub last : F
  pub opened : WasOpen holds opening is_closed name first last
  pub done : P first last

-- it can't be had, under a name that is kept
abbrev pub LacksNamed : (List ℕ → LedgerFailure → Type 0) → List ℕ → Fault → Type 0
LacksNamed lacks name fault = (fault ≡ OutOfMemory) ⊎ ((text : String Global) × (string_bytes text ≡ name) × LacksLedger lacks text fault)

-- these rows of a run are booked as what it gives back, and these are the lines of that
abbrev pub GivesBackIn : {F : Type 0} → (List ℕ → F → Type 0) → (F → Option (List ℕ)) → (F → Option (List ℕ)) → (F → ℕ) → (F → Type 0) → List ℕ → List ℕ → List (List ℕ) → List RunRow → List ℕ → Type 0
GivesBackIn {F} holds octets stored opening is_closed ledger run names rows lines =
    DoneIn holds opening is_closed ledger (λ first last. (s : State) × (t : State) × Posts octets stored (λ s. returns_of run s names rows) first last s t lines)

abbrev pub FailsGivingBackIn : {F : Type 0} → (List ℕ → F → Type 0) → (List ℕ → LedgerFailure → Type 0) → (ErrorKind → Type 0) → (F → Option (List ℕ)) → (F → ℕ) → (F → Type 0) → List ℕ → List ℕ → List (List ℕ) → List RunRow → Fault → Type 0
FailsGivingBackIn holds lacks errs octets opening is_closed ledger run names rows fault =
    LacksNamed lacks ledger fault ⊎ DoneIn holds opening is_closed ledger (λ first last. FailsPosting errs octets (λ s. returns_of run s names rows) first last fault)

-- ---- settle

-- the journal of a name is a truncated head, or isn't
abbrev pub IsCutFile : (List ℕ → Option Told → Type 0) → List ℕ → Bool → Type 0
IsCutFile finds name true = OfFile finds name IsCutHead
IsCutFile finds name false = Unit {0}

-- a run of one took nothing
abbrev pub IsOfCutFile : (List ℕ → Option Told → Type 0) → List ℕ → Fault → Type 0
IsOfCutFile finds name fault = (fault ≡ LedgerRun NotOut) × OfFile finds name IsCutHead

abbrev pub FailsReadingJournal : (List ℕ → Option Told → Type 0) → List ℕ → Fault → Type 0
FailsReadingJournal finds name fault = (fault ≡ OutOfMemory) ⊎ ((text : String Global) × (string_bytes text ≡ name) × FailsReadingFile finds text fault)

-- what a run has of the ledger of a name comes back, by what its journal says of its accounts
abbrev pub SettlesRun : {F : Type 0} → (List ℕ → F → Type 0) → (F → Option (List ℕ)) → (F → Option (List ℕ)) → (F → ℕ) → (F → Type 0) → List ℕ → TheRun → List ℕ → Type 0
SettlesRun holds octets stored opening is_closed ledger read lines = GivesBackIn holds octets stored opening is_closed ledger read.name read.accounts.items read.run.rows.items lines

abbrev pub FailsSettling : {F : Type 0} → (List ℕ → F → Type 0) → (List ℕ → LedgerFailure → Type 0) → (ErrorKind → Type 0) → (F → Option (List ℕ)) → (F → ℕ) → (F → Type 0) → List ℕ → TheRun → Fault → Type 0
FailsSettling holds lacks errs octets opening is_closed ledger read fault = FailsGivingBackIn holds lacks errs octets opening is_closed ledger read.name read.accounts.items read.run.rows.items fault

-- the run that an order names took nothing, or that is done
abbrev pub Settles : {F : Type 0} → (List ℕ → Option Told → Type 0) → (List ℕ → F → Type 0) → (F → Option (List ℕ)) → (F → Option (List ℕ)) → (F → ℕ) → (F → Type 0) → SettleArgs → List ℕ → Type 0
Settles finds holds octets stored opening is_closed order lines =
    (OfFile finds (string_bytes order.journal) IsCutHead × (lines ≡ []))
    ⊎ ((read : TheRun) × IsLedgerRunBy finds (string_bytes order.config) (string_bytes order.journal) read × SettlesRun holds octets stored opening is_closed (string_bytes order.ledger) read lines)

abbrev pub FailsSettle : {F : Type 0} → (List ℕ → Option Told → Type 0) → (List ℕ → F → Type 0) → (List ℕ → LedgerFailure → Type 0) → (ErrorKind → Type 0) → (F → Option (List ℕ)) → (F → ℕ) → (F → Type 0) → SettleArgs → Fault → Type 0
FailsSettle finds holds lacks errs octets opening is_closed order fault =
    FailsReadingJournal finds (string_bytes order.journal) fault
    ⊎ FailsLedgerRunBy finds (string_bytes order.config) (string_bytes order.journal) fault
    ⊎ ((read : TheRun) × IsLedgerRunBy finds (string_bytes order.config) (string_bytes order.journal) read × FailsSettling holds lacks errs octets opening is_closed (string_bytes order.ledger) read fault)

-- this process holds its journal, so that no run goes on by it; and the lines that were booked are printed, once the disk has them
abbrev pub SettlesJob : {F J : Type 0} → (List ℕ → J → Type 0) → (List ℕ → Option Told → Type 0) → (List ℕ → F → Type 0) → (F → Option (List ℕ)) → (F → Option (List ℕ)) → (F → ℕ) → (F → Type 0) → SettleArgs → Option (List ℕ) → Option (List ℕ) → Type 0
SettlesJob {F} {J} opens finds holds octets stored opening is_closed order old new =
    (held : J) × opens (string_bytes order.journal) held × (lines : List ℕ) × Settles finds holds octets stored opening is_closed order lines × Appends old new lines

-- it isn't settled: its journal can't be had (its run is going on), or it failed so; or it is, and the lines can't be printed
abbrev pub FailsSettleJob : {F : Type 0} → (List ℕ → Type 0) → (List ℕ → Type 0) → (List ℕ → Option Told → Type 0) → (List ℕ → F → Type 0) → (List ℕ → LedgerFailure → Type 0) → (ErrorKind → Type 0) → (F → Option (List ℕ)) → (F → Option (List ℕ)) → (F → ℕ) → (F → Type 0) → SettleArgs → Option (List ℕ) → Option (List ℕ) → Fault → Type 0
FailsSettleJob refuses held finds holds lacks errs octets stored opening is_closed order old new fault =
    FailsOpen refuses held (string_bytes order.journal) fault
    ⊎ FailsSettle finds holds lacks errs octets opening is_closed order fault
    ⊎ ((fault ≡ output_failed) × (lines : List ℕ) × Settles finds holds octets stored opening is_closed order lines × WritesFront old new lines)

-- ---- decide

abbrev pub AreDecided : TheRun → List ℕ → List Decision → Type 0
AreDecided read octets decisions = AreDecisions read.run read.name (records_of octets) decisions

abbrev pub FailsDeciding : TheRun → List ℕ → Fault → Type 0
FailsDeciding read octets fault = (f : DecisionFault) × IsFaultOfDecisions read.run read.name (records_of octets) f × (fault ≡ fault_of_decisions f)

-- what an order's file decides of its run
abbrev pub DecidesBy : (List ℕ → Option Told → Type 0) → DecideArgs → List Decision → Type 0
DecidesBy finds order decisions =
    (read : TheRun) × IsLedgerRunBy finds (string_bytes order.run.config) (string_bytes order.run.journal) read × OfFile finds (string_bytes order.decisions) (λ octets. AreDecided read octets decisions)

abbrev pub FailsDecide : (List ℕ → Option Told → Type 0) → DecideArgs → Fault → Type 0
FailsDecide finds order fault =
    FailsLedgerRunBy finds (string_bytes order.run.config) (string_bytes order.run.journal) fault
    ⊎ FailsReadingJournal finds (string_bytes order.run.journal) fault
    ⊎ IsOfCutFile finds (string_bytes order.run.journal) fault
    ⊎ FailsReadingJournal finds (string_bytes order.decisions) fault
    ⊎ ((read : TheRun) × IsLedgerRunBy finds (string_bytes order.run.config) (string_bytes order.run.journal) read × OfFile finds (string_bytes order.decisions) (λ octets. FailsDeciding read octets fault))

-- that is booked: each part is spent or free again by its own cost, and what is decided so already isn't decided again
abbrev pub BooksDecisions : {F : Type 0} → (List ℕ → F → Type 0) → (F → Option (List ℕ)) → (F → Option (List ℕ)) → (F → ℕ) → (F → Type 0) → List ℕ → List Decision → List ℕ → Type 0
BooksDecisions holds octets stored opening is_closed ledger decisions lines =
    DoneIn holds opening is_closed ledger (λ first last. (s : State) × (t : State) × Posts octets stored (undecided decisions) first last s t lines)

abbrev pub FailsDecisions : {F : Type 0} → (List ℕ → F → Type 0) → (List ℕ → LedgerFailure → Type 0) → (ErrorKind → Type 0) → (F → Option (List ℕ)) → (F → ℕ) → (F → Type 0) → List ℕ → List Decision → Fault → Type 0
FailsDecisions holds lacks errs octets opening is_closed ledger decisions fault =
    LacksNamed lacks ledger fault ⊎ DoneIn holds opening is_closed ledger (λ first last. FailsPosting errs octets (undecided decisions) first last fault)

abbrev pub DecidesJob : {F : Type 0} → (List ℕ → Option Told → Type 0) → (List ℕ → F → Type 0) → (F → Option (List ℕ)) → (F → Option (List ℕ)) → (F → ℕ) → (F → Type 0) → DecideArgs → Option (List ℕ) → Option (List ℕ) → Type 0
DecidesJob finds holds octets stored opening is_closed order old new =
    (decisions : List Decision) × DecidesBy finds order decisions × (lines : List ℕ) × BooksDecisions holds octets stored opening is_closed (string_bytes order.run.ledger) decisions lines × Appends old new lines

abbrev pub FailsDecideJob : {F : Type 0} → (List ℕ → Option Told → Type 0) → (List ℕ → F → Type 0) → (List ℕ → LedgerFailure → Type 0) → (ErrorKind → Type 0) → (F → Option (List ℕ)) → (F → Option (List ℕ)) → (F → ℕ) → (F → Type 0) → DecideArgs → Option (List ℕ) → Option (List ℕ) → Fault → Type 0
FailsDecideJob finds holds lacks errs octets stored opening is_closed order old new fault =
    FailsDecide finds order fault
    ⊎ ((decisions : List Decision) × DecidesBy finds order decisions
    × (FailsDecisions holds lacks errs octets opening is_closed (string_bytes order.run.ledger) decisions fault
    ⊎ ((fault ≡ output_failed) × (lines : List ℕ) × BooksDecisions holds octets stored opening is_closed (string_bytes order.run.ledger) decisions lines × WritesFront old new lines)))
