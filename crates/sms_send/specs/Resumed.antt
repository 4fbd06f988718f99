-- What `resume` does with a run, and why it fails.
use Rattle.std.specs.Prelude.{◌≡◌, ◌⊎◌, ℕ, ◌<◌, Bool, false, true, String, List, Option, is_some, string_bytes}
use Rattle.std.specs.declared.alloc.Global.{Global}
use Rattle.std.specs.declared.io.ErrorKind.{ErrorKind}
use Rattle.std.specs.Io.KnownBytes.{Appends}
use Rattle.sms_devices.specs.Centres.{CentreAt}
use Rattle.sms_driver.specs.declared.start_gate.Command.TheVariants.{Go}
use Rattle.sms_driver.specs.declared.start.StartPhase.{StartPhase}
use Rattle.sms_driver.specs.declared.start.StartPhase.TheVariants.{Idle, Released}
use Rattle.sms_files.specs.Inputs.{Told}
use Rattle.sms_files.specs.Output.{WritesFront}
use Rattle.sms_files.specs.Report.{report_of}
use Rattle.sms_journal.specs.Left.{count_left}
use Rattle.sms_journal.specs.Resuming.{IsFaultOfRun, IsRunOfJournal}
use Rattle.sms_journal.specs.declared.recovery.resuming.JournaledRun.{JournaledRun}
use Rattle.sms_journal.specs.declared.text.header.JournalKind.TheVariants.{Run as OfRun, Trial as OfTrial}
use Rattle.sms_send.specs.Words.{bytes_of}
use Rattle.sms_send.specs.FieldFiles.{AreFieldsAt, FailsFields}
use Rattle.sms_send.specs.InboxFiles.{LacksInbox}
use Rattle.sms_send.specs.Faults.{ComesAt, output_failed, unreported}
use Rattle.sms_send.specs.Noted.{FailsNotedWork, IsHeld, IsNotedIn, TakesNoRound}
use Rattle.sms_send.specs.Reached.{centre_in}
use Rattle.sms_send.specs.Recovered.{FailsWith}
use Rattle.sms_send.specs.PlainFiles.{sees}
use Rattle.sms_send.specs.Runs.{FailsNamed, IsRun, tariff_in}
use Rattle.sms_send.specs.Sent.{SendsLeft}
use Rattle.sms_send.specs.Statuses.{status_by}
use Rattle.sms_send.specs.declared.args.send_args.Again.{Again}
use Rattle.sms_send.specs.declared.args.send_args.ResumeArgs.{ResumeArgs}
use Rattle.sms_send.specs.declared.faults.fault.Fault.{Fault}
use Rattle.sms_send.specs.declared.faults.fault.Fault.TheVariants.{File, LedgerRun, OutOfMemory, Trial}
use Rattle.sms_send.specs.declared.faults.ledger_run.LedgerRunFlaw.TheVariants.{OfLedger}
use Rattle.sms_send.specs.declared.files.run_files.RunFiles.{RunFiles}
use Rattle.sms_send.specs.declared.sending.target.TargetKind.TheVariants.{Remote}
use Rattle.sms_send.specs.declared.sending.work.Work.TheVariants.{Left}

-- ---- the job

-- the files of the run or the trial, and what its journal says of it
abbrev pub IsNotedRun : RunFiles → JournaledRun → Type 0
IsNotedRun files run = IsRunOfJournal files.config.items files.named.accounts.items files.named.messages.items (tariff_in files.named) files.written.items run

-- and of a run
abbrev pub IsJournaled : RunFiles → JournaledRun → Type 0
IsJournaled files run = IsNotedRun files run × (run.kind ≡ OfRun)

-- the journal is of a trial of these files
abbrev pub IsOfTrial : RunFiles → Type 0
IsOfTrial files =
    (run : JournaledRun) × IsRunOfJournal files.config.items files.named.accounts.items files.named.messages.items (tariff_in files.named) files.written.items run × (run.kind ≡ OfTrial)

-- nothing is left: the report of what the journal says was written, and the status is by that
pub record PrintsRun (strict : Bool) (run : JournaledRun) (old new : Option (List ℕ)) (status : ℕ) : Type 0 where
  pub none : count_left run.ends.items ≡ 0
  pub written : Appends old new (report_of run.openings.items run.ends.items run.rows.items)
  pub status_is : status ≡ status_by strict run.ends.items

-- something is left, and the run went on in rounds: the report of the whole run was written, and the status is by that
pub record GoesOn (tells : ℕ → ℕ → Told) (again : Option Again) (strict : Bool) (run : JournaledRun) (old new : Option (List ℕ)) (status : ℕ) : Type 0 where
  pub some : 0 < count_left run.ends.items
  pub sends : SendsLeft tells again strict run old new status

-- the journal that an order names says this of its run, which has the fields that the order wants and is of no ledger: one of a ledger goes on by its ledger alone
abbrev pub IsJournaledBy : (List ℕ → Option Told → Type 0) → ResumeArgs → JournaledRun → Type 0
IsJournaledBy finds order run =
    (files : RunFiles) × IsRun finds (string_bytes order.config) (string_bytes order.journal.name) files × (is_some files.run ≡ false) × IsJournaled files run
    × AreFieldsAt finds (bytes_of order.fields) run.config.fields

-- the run that an order names was resumed with this status: nothing was left, or it went on
abbrev pub ResumesBy : (List ℕ → Option Told → Type 0) → (CentreAt → Bool → ℕ → ℕ → Told) → ResumeArgs → Option (List ℕ) → Option (List ℕ) → ℕ → Type 0
ResumesBy finds tells order old new status =
    (run : JournaledRun) × IsJournaledBy finds order run
    × (PrintsRun order.strict run old new status ⊎ GoesOn (tells (centre_in Remote run.config) true) order.again order.strict run old new status)

-- nothing was left, and its journal is as it was
abbrev pub EndsUnnoted : (List ℕ → Option Told → Type 0) → ResumeArgs → Option (List ℕ) → Option (List ℕ) → ℕ → Type 0
EndsUnnoted finds order old new status = (run : JournaledRun) × IsJournaledBy finds order run × PrintsRun order.strict run old new status

-- or the file that was opened by the journal's name was only written to since, and ends with the note of the run's end
abbrev pub NotesRound : {F : Type 0} → (F → Option (List ℕ)) → (List ℕ → F → Type 0) → (List ℕ → Option Told → Type 0) → ResumeArgs → Option (List ℕ) → Option (List ℕ) → ℕ → Type 0
NotesRound contents opens finds order old new status = EndsUnnoted (sees order.refs finds) order old new status ⊎ IsNotedIn contents (opens (string_bytes order.journal.name)) status

-- ---- why it fails

-- the journal can't be opened: a process holds it, the system refuses it, or memory ran out
abbrev pub FailsOpen : (List ℕ → Type 0) → (List ℕ → Type 0) → List ℕ → Fault → Type 0
FailsOpen refuses holds name fault =
    IsHeld holds name fault ⊎ (((kind : ErrorKind) × (text : String Global) × (fault ≡ File text kind) × (string_bytes text ≡ name) × refuses name) ⊎ (fault ≡ OutOfMemory))

-- the journal is none of a run or a trial of these files
abbrev pub FailsNotedRun : Bool → RunFiles → Fault → Type 0
FailsNotedRun strict files fault = FailsWith (λ f. IsFaultOfRun files.config.items files.named.accounts.items files.named.messages.items (tariff_in files.named) files.written.items strict f) fault

-- what the journal says is none of a run of these files, or strictly, the messages file ends within a quote; or it is of a trial
abbrev pub FailsResumed : Bool → RunFiles → Fault → Type 0
FailsResumed strict files fault = FailsNotedRun strict files fault ⊎ ((fault ≡ Trial) × IsOfTrial files)

-- the report of a run of which nothing is left can't be written
abbrev pub FailsPrintingRun : JournaledRun → Option (List ℕ) → Option (List ℕ) → Fault → Type 0
FailsPrintingRun run old new fault =
    ((fault ≡ output_failed) × (count_left run.ends.items ≡ 0) × WritesFront old new (report_of run.openings.items run.ends.items run.rows.items)) ⊎ ((fault ≡ unreported) × (new ≡ old))

-- the run can't go on: its journal takes no round, the sending failed, or the journal did after the report
abbrev pub FailsResuming : CentreAt → (ℕ → ℕ → Told) → Option Again → Bool → JournaledRun → Option (List ℕ) → Option (List ℕ) → Fault → Type 0
FailsResuming centre tells again strict run old new fault =
    (TakesNoRound fault × (new ≡ old)) ⊎ FailsNotedWork centre tells again strict (Left run) old new fault

-- or memory was refused before that, or there is no inbox where one is asked for
abbrev pub FailsGoingOn : Option (List ℕ) → CentreAt → (ℕ → ℕ → Told) → Option Again → Bool → JournaledRun → Option (List ℕ) → Option (List ℕ) → Fault → Type 0
FailsGoingOn inbox centre tells again strict run old new fault = (((fault ≡ OutOfMemory) ⊎ LacksInbox inbox run.config fault) × (new ≡ old)) ⊎ FailsResuming centre tells again strict run old new fault

-- the journal is of a run of a ledger, which goes on with that alone
abbrev pub IsOfLedger : RunFiles → Fault → Type 0
IsOfLedger files fault = (fault ≡ LedgerRun OfLedger) × (is_some files.run ≡ true)

-- there is no such run: a file can't be read, the journal is none of a run of the files, or of one of a ledger, or the fields can't be read
abbrev pub FailsJournaled : (List ℕ → Option Told → Type 0) → ResumeArgs → Fault → Type 0
FailsJournaled finds order fault =
    FailsNamed finds (string_bytes order.config) (string_bytes order.journal.name) fault
    ⊎ (((files : RunFiles) × IsRun finds (string_bytes order.config) (string_bytes order.journal.name) files × (FailsResumed order.strict files fault ⊎ IsOfLedger files fault))
    ⊎ FailsFields finds (bytes_of order.fields) fault)

-- by these arguments: the journal can't be opened, there is no such run, or it can't go on
abbrev pub FailsResumeJob : (List ℕ → Type 0) → (List ℕ → Type 0) → (List ℕ → Option Told → Type 0) → (CentreAt → Bool → ℕ → ℕ → Told) → ResumeArgs → Option (List ℕ) → Option (List ℕ) → Fault → Type 0
FailsResumeJob refuses holds finds tells order old new fault =
    ((FailsOpen refuses holds (string_bytes order.journal.name) fault ⊎ FailsJournaled finds order fault) × (new ≡ old))
    ⊎ ((run : JournaledRun) × IsJournaledBy finds order run
    × (FailsPrintingRun run old new fault ⊎ FailsGoingOn (bytes_of order.lines.inbox) (centre_in Remote run.config) (tells (centre_in Remote run.config) true) order.again order.strict run old new fault))

-- a run of which nothing is left starts no worker
abbrev pub HasBegunResume : StartPhase → Type 0
HasBegunResume begun = (begun ≡ Idle) ⊎ (begun ≡ Released Go)

-- a fault of a run of which nothing is left comes before a worker is started; and each other says by its phase whether messages may have been sent
abbrev pub ComesInResume : StartPhase → Fault → Type 0
ComesInResume begun fault = (begun ≡ Idle) ⊎ ComesAt begun fault
