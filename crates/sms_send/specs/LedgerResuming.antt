-- What a run of a ledger does that is resumed, and why it isn't.
use Rattle.std.specs.Prelude.{◌≡◌, ◌⊎◌, ◌<◌, ◌+◌, ℕ, min, Bool, true, false, List, Option, Result, Ok, Err, IfErr, IfOk, string_bytes}
use Rattle.std.specs.declared.io.ErrorKind.{ErrorKind}
use Rattle.sms_devices.specs.Centres.{CentreAt}
use Rattle.sms_devices.specs.declared.ledger.failure.LedgerFailure.{LedgerFailure}
use Rattle.sms_driver.specs.declared.start_gate.Command.TheVariants.{Go}
use Rattle.sms_driver.specs.declared.start.StartPhase.TheVariants.{Released}
use Rattle.sms_files.specs.Inputs.{Told}
use Rattle.sms_journal.specs.OfLedger.{are_out}
use Rattle.sms_journal.specs.Resuming.{run_with_fields}
use Rattle.sms_journal.specs.declared.recovery.resuming.JournaledRun.{JournaledRun}
use Rattle.sms_journal.specs.declared.text.header.JournalKind.TheVariants.{Run as OfRun}
use Rattle.sms_ledger.specs.Books.{State}
use Rattle.sms_message.specs.declared.fields.Fields.{Fields}
use Rattle.sms_send.specs.FieldFiles.{AreFieldsAt, FailsFields}
use Rattle.sms_send.specs.Kept.{KeepsThrough}
use Rattle.sms_send.specs.LedgerJobs.{FailsLedgerRun, FailsReadingJournal, IsLedgerRun, IsOfCutFile, LacksNamed}
use Rattle.sms_send.specs.LedgerSendings.{EndsOn, IsSettled, ReturnsBooked}
use Rattle.sms_send.specs.Ledgers.{FailsReading, IsRead}
use Rattle.sms_send.specs.Noted.{IsNotedIn}
use Rattle.sms_send.specs.Reached.{centre_in}
use Rattle.sms_send.specs.Resumed.{FailsGoingOn, FailsOpen, FailsPrintingRun, GoesOn, IsOfTrial, PrintsRun}
use Rattle.sms_send.specs.Runs.{FailsNamed, IsRun}
use Rattle.sms_send.specs.Words.{bytes_of}
use Rattle.sms_send.specs.declared.args.send_args.ResumeArgs.{ResumeArgs}
use Rattle.sms_send.specs.declared.faults.fault.Fault.{Fault}
use Rattle.sms_send.specs.declared.faults.fault.Fault.TheVariants.{LedgerRun, OutOfMemory, Trial}
use Rattle.sms_send.specs.declared.faults.ledger_run.LedgerRunFlaw.TheVariants.{NotOut}
use Rattle.sms_send.specs.declared.files.run_files.RunFiles.{RunFiles}
use Rattle.sms_send.specs.declared.jobs.ledger_run.LedgerRun.{LedgerRun as TheRun}
use Rattle.sms_send.specs.declared.jobs.ledger_send.Debtor.{Debtor}
use Rattle.sms_send.specs.declared.sending.kept.Kept.{Kept}
use Rattle.sms_send.specs.declared.sending.target.TargetKind.TheVariants.{Remote}

-- ---- credits

-- all that the accounts of a run opened with is out with it in the ledger of a name, and its journal has a whole first line
abbrev pub IsOutWith : {F : Type 0} → (List ℕ → F → Type 0) → (F → Option (List ℕ)) → List ℕ → TheRun → Type 0
IsOutWith {F} holds octets ledger read =
    (file : F) × holds ledger file × (text : List ℕ) × (s : State) × IsRead octets file text s × (are_out read.name s read.accounts.items read.run.openings.items ≡ true) × (0 < read.run.whole)

-- what was taken isn't out with a run: the ledger says so, or its journal has no whole first line
abbrev pub IsNotOut : {F : Type 0} → (List ℕ → F → Type 0) → (F → Option (List ℕ)) → List ℕ → TheRun → Type 0
IsNotOut {F} holds octets ledger read =
    (file : F) × holds ledger file × (text : List ℕ) × (s : State) × IsRead octets file text s × ((are_out read.name s read.accounts.items read.run.openings.items ≡ false) ⊎ (read.run.whole ≡ 0))

-- it isn't found that they are out: they aren't, the ledger can't be had or read, or memory was refused
abbrev pub FailsOut : {F : Type 0} → (List ℕ → F → Type 0) → (List ℕ → LedgerFailure → Type 0) → (ErrorKind → Type 0) → (F → Option (List ℕ)) → List ℕ → TheRun → Fault → Type 0
FailsOut {F} holds lacks errs octets ledger read fault =
    ((fault ≡ LedgerRun NotOut) × IsNotOut holds octets ledger read)
    ⊎ LacksNamed lacks ledger fault
    ⊎ ((file : F) × holds ledger file × FailsReading errs octets file fault)

-- ---- its journal

-- a run of a ledger with these fields in place of its own
abbrev pub ledger_run_with : Fields → TheRun → TheRun
ledger_run_with fields read = record read { run = run_with_fields fields read.run }

-- the run that is to go on, by its files, with the fields that the order wants; and how many octets stand before its journal
abbrev pub IsGoing : (List ℕ → Option Told → Type 0) → ResumeArgs → TheRun → ℕ → Type 0
IsGoing finds order read before = (files : RunFiles) × IsRun finds (string_bytes order.config) (string_bytes order.journal.name) files × IsLedgerRun files read × (before ≡ files.before) × (read.run.kind ≡ OfRun) × AreFieldsAt finds (bytes_of order.fields) read.run.config.fields

-- it can't be had: its files can't, its journal is a truncated head, or none of a run of a ledger of these files, or the fields can't be read
abbrev pub FailsGoing : (List ℕ → Option Told → Type 0) → ResumeArgs → Fault → Type 0
FailsGoing finds order fault =
    FailsReadingJournal finds (string_bytes order.journal.name) fault
    ⊎ IsOfCutFile finds (string_bytes order.journal.name) fault
    ⊎ FailsNamed finds (string_bytes order.config) (string_bytes order.journal.name) fault
    ⊎ ((files : RunFiles) × IsRun finds (string_bytes order.config) (string_bytes order.journal.name) files × (FailsLedgerRun order.strict files fault ⊎ ((fault ≡ Trial) × IsOfTrial files)))
    ⊎ FailsFields finds (bytes_of order.fields) fault

-- ---- its end

-- a run of a ledger was resumed so, and what came back is what the statement says that was printed
pub record ResumesWith {F : Type 0} (holds : List ℕ → F → Type 0) (octets stored : F → Option (List ℕ)) (opening : F → ℕ) (is_closed : F → Type 0) (ledger : List ℕ) (read : TheRun) (resumes : ℕ → Type 0) (old new : Option (List ℕ)) (status : ℕ) : Type 0 where
  pub resumed : resumes status
  pub debtor : Debtor
  pub run_is : debtor.run ≡ read.name
  pub accounts_are : debtor.accounts ≡ read.accounts
  pub kept : Option Kept
  pub keeps : KeepsThrough old new (Ok status) kept
  pub settled : IsSettled (ReturnsBooked holds octets stored opening is_closed ledger debtor) kept

-- it was, or it failed so; and then giving back did behind the report, or what came back is booked all the same. Where nothing is kept of it, its credits stay out
pub record FailsWith {F : Type 0} (holds : List ℕ → F → Type 0) (lacks : List ℕ → LedgerFailure → Type 0) (errs : ErrorKind → Type 0) (octets stored : F → Option (List ℕ)) (opening : F → ℕ) (is_closed : F → Type 0) (ledger : List ℕ) (read : TheRun) (resumes : ℕ → Type 0) (fails : Fault → Type 0) (old new : Option (List ℕ)) (fault : Fault) : Type 0 where
  pub sent : Result ℕ Fault
  pub resumed : IfOk sent resumes
  pub refused : IfErr sent fails
  pub debtor : Debtor
  pub run_is : debtor.run ≡ read.name
  pub accounts_are : debtor.accounts ≡ read.accounts
  pub kept : Option Kept
  pub keeps : KeepsThrough old new sent kept
  pub ends : EndsOn holds lacks errs octets stored opening is_closed ledger debtor (Released Go) kept sent (Err fault)

-- ---- a run of which nothing is left

abbrev pub EndsWhole : {F : Type 0} → (List ℕ → F → Type 0) → (F → Option (List ℕ)) → (F → Option (List ℕ)) → (F → ℕ) → (F → Type 0) → List ℕ → Bool → TheRun → Option (List ℕ) → Option (List ℕ) → ℕ → Type 0
EndsWhole holds octets stored opening is_closed ledger strict read old new status =
    ResumesWith holds octets stored opening is_closed ledger read (PrintsRun strict read.run old new) old new status

abbrev pub FailsWhole : {F : Type 0} → (List ℕ → F → Type 0) → (List ℕ → LedgerFailure → Type 0) → (ErrorKind → Type 0) → (F → Option (List ℕ)) → (F → Option (List ℕ)) → (F → ℕ) → (F → Type 0) → List ℕ → Bool → TheRun → Option (List ℕ) → Option (List ℕ) → Fault → Type 0
FailsWhole holds lacks errs octets stored opening is_closed ledger strict read old new fault =
    (fault ≡ OutOfMemory) ⊎ FailsWith holds lacks errs octets stored opening is_closed ledger read (PrintsRun strict read.run old new) (FailsPrintingRun read.run old new) old new fault

-- ---- one that goes on

-- what its journal says where so many octets stand before it
abbrev pub run_behind : ℕ → JournaledRun → JournaledRun
run_behind before run = record run { whole = min (run.whole + before) 18446744073709551615 }

-- its credits are out, it went on by its journal, and that has the note of its end
pub record GoesOnWith {F J : Type 0} (contents : J → Option (List ℕ)) (opens : List ℕ → J → Type 0) (tells : CentreAt → Bool → ℕ → ℕ → Told) (holds : List ℕ → F → Type 0) (octets : F → Option (List ℕ)) (ledger : List ℕ) (order : ResumeArgs) (read : TheRun) (before : ℕ) (old new : Option (List ℕ)) (status : ℕ) : Type 0 where
  pub out : IsOutWith holds octets ledger read
  pub goes : GoesOn (tells (centre_in Remote read.run.config) true) order.again order.strict (run_behind before read.run) old new status
  pub noted : IsNotedIn contents (opens (string_bytes order.journal.name)) status

abbrev pub EndsGoing : {F J : Type 0} → (J → Option (List ℕ)) → (List ℕ → J → Type 0) → (CentreAt → Bool → ℕ → ℕ → Told) → (List ℕ → F → Type 0) → (F → Option (List ℕ)) → (F → Option (List ℕ)) → (F → ℕ) → (F → Type 0) → List ℕ → ResumeArgs → TheRun → ℕ → Option (List ℕ) → Option (List ℕ) → ℕ → Type 0
EndsGoing contents opens tells holds octets stored opening is_closed ledger order read before old new status =
    ResumesWith holds octets stored opening is_closed ledger read (GoesOnWith contents opens tells holds octets ledger order read before old new) old new status

-- they aren't, memory was refused, or they are, and it failed so
abbrev pub FailsGoingWith : {F J : Type 0} → (J → Option (List ℕ)) → (List ℕ → J → Type 0) → (CentreAt → Bool → ℕ → ℕ → Told) → (List ℕ → F → Type 0) → (List ℕ → LedgerFailure → Type 0) → (ErrorKind → Type 0) → (F → Option (List ℕ)) → (F → Option (List ℕ)) → (F → ℕ) → (F → Type 0) → List ℕ → ResumeArgs → TheRun → ℕ → Option (List ℕ) → Option (List ℕ) → Fault → Type 0
FailsGoingWith contents opens tells holds lacks errs octets stored opening is_closed ledger order read before old new fault =
    FailsOut holds lacks errs octets ledger read fault ⊎ (fault ≡ OutOfMemory)
    ⊎ (IsOutWith holds octets ledger read
    × FailsWith holds lacks errs octets stored opening is_closed ledger read (GoesOnWith contents opens tells holds octets ledger order read before old new)
    (FailsGoingOn (bytes_of order.lines.inbox) (centre_in Remote read.run.config) (tells (centre_in Remote read.run.config) true) order.again order.strict (run_behind before read.run) old new) old new fault)

-- ---- the job

-- a run of it was resumed whose journal this process held, so that it wasn't going on: nothing was left and the report was printed, or it went on, which takes that its credits are out; and what came back is what the statement says that was printed
abbrev pub ResumesOn : {F J : Type 0} → (J → Option (List ℕ)) → (List ℕ → J → Type 0) → (List ℕ → Option Told → Type 0) → (CentreAt → Bool → ℕ → ℕ → Told) → (List ℕ → F → Type 0) → (F → Option (List ℕ)) → (F → Option (List ℕ)) → (F → ℕ) → (F → Type 0) → List ℕ → ResumeArgs → Option (List ℕ) → Option (List ℕ) → ℕ → Type 0
ResumesOn {F} {J} contents opens finds tells holds octets stored opening is_closed ledger order old new status =
    (held : J) × opens (string_bytes order.journal.name) held × (read : TheRun) × (before : ℕ) × IsGoing finds order read before
    × (EndsWhole holds octets stored opening is_closed ledger order.strict read old new status ⊎ EndsGoing contents opens tells holds octets stored opening is_closed ledger order read before old new status)

-- why it isn't: its journal can't be opened (its run is going on), there is no such run, or it was resumed, by a journal that this process held, and failed so
abbrev pub FailsResumeOn : {F J : Type 0} → (J → Option (List ℕ)) → (List ℕ → J → Type 0) → (List ℕ → Type 0) → (List ℕ → Type 0) → (List ℕ → Option Told → Type 0) → (CentreAt → Bool → ℕ → ℕ → Told) → (List ℕ → F → Type 0) → (List ℕ → LedgerFailure → Type 0) → (ErrorKind → Type 0) → (F → Option (List ℕ)) → (F → Option (List ℕ)) → (F → ℕ) → (F → Type 0) → List ℕ → ResumeArgs → Option (List ℕ) → Option (List ℕ) → Fault → Type 0
FailsResumeOn {F} {J} contents opens refuses held finds tells holds lacks errs octets stored opening is_closed ledger order old new fault =
    FailsOpen refuses held (string_bytes order.journal.name) fault
    ⊎ FailsGoing finds order fault
    ⊎ ((journal : J) × opens (string_bytes order.journal.name) journal × (read : TheRun) × (before : ℕ) × IsGoing finds order read before
    × (FailsWhole holds lacks errs octets stored opening is_closed ledger order.strict read old new fault
    ⊎ FailsGoingWith contents opens tells holds lacks errs octets stored opening is_closed ledger order read before old new fault))
