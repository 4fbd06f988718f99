-- What a sending on a ledger does before its first request and at its end.
use Rattle.std.specs.Prelude.{◌≡◌, ◌⊎◌, ℕ, ◌==◌, Bool, true, false, if◌then◌else◌, List, [], Option, Some, None, Result, Ok, Err, IfErr, IfOk, IfSome, String, string_bytes}
use Rattle.std.specs.declared.alloc.Global.{Global}
use Rattle.std.specs.declared.io.ErrorKind.{ErrorKind}
use Rattle.std.specs.Io.KnownBytes.{Appends, Keeps}
use Rattle.sms_core.specs.declared.row.Row.{Row as RunRow}
use Rattle.sms_devices.specs.Centres.{CentreAt}
use Rattle.sms_devices.specs.declared.ledger.failure.LedgerFailure.{LedgerFailure}
use Rattle.sms_driver.specs.declared.start_gate.Command.TheVariants.{Go}
use Rattle.sms_driver.specs.declared.start.StartPhase.{StartPhase}
use Rattle.sms_driver.specs.declared.start.StartPhase.TheVariants.{Released}
use Rattle.sms_files.specs.Fields.{records_of}
use Rattle.sms_files.specs.Inputs.{Told}
use Rattle.sms_files.specs.Quoting.{EndsQuoted}
use Rattle.sms_files.specs.declared.config.Config.{Config}
use Rattle.sms_files.specs.declared.input.Input.{Input}
use Rattle.sms_journal.specs.Digests.{digests_of}
use Rattle.sms_journal.specs.OfLedger.{HaveNames, accounts_in, run_head, run_name, takings_for}
use Rattle.sms_journal.specs.Stages.{AreRowsOf}
use Rattle.sms_ledger.specs.Books.{State}
use Rattle.sms_ledger.specs.Posting.{ArePosted}
use Rattle.sms_send.specs.ConfigFiles.{FailsReadingConfig, OfConfig}
use Rattle.sms_send.specs.Faults.{IsWords, unsettled_by}
use Rattle.sms_send.specs.FieldFiles.{AreFieldsAt, FailsFields}
use Rattle.sms_send.specs.Headed.{FailsMessages, HasMessages}
use Rattle.sms_send.specs.InboxFiles.{LacksInbox}
use Rattle.sms_send.specs.Kept.{KeepsThrough}
use Rattle.sms_send.specs.LedgerJobs.{DoneIn, FailsGivingBackIn, GivesBackIn, LacksNamed, LacksNames}
use Rattle.sms_send.specs.LedgerRuns.{FailsToStand, RefusesAt, TakesOut}
use Rattle.sms_send.specs.Ledgers.{FailsReading, IsRead}
use Rattle.sms_send.specs.Noted.{FailsNoted, IsHeld, IsNotedIn, LacksFirstLine}
use Rattle.sms_send.specs.Reached.{centre_in}
use Rattle.sms_send.specs.Reading.{IsFaultOfOctets, IsInputOf}
use Rattle.sms_send.specs.Runs.{tariff_in}
use Rattle.sms_send.specs.Sent.{SendsInput}
use Rattle.sms_send.specs.Words.{bytes_of}
use Rattle.sms_send.specs.declared.args.send_args.Again.{Again}
use Rattle.sms_send.specs.declared.args.send_args.JournalFile.{JournalFile}
use Rattle.sms_send.specs.declared.args.send_args.SendArgs.{SendArgs}
use Rattle.sms_send.specs.declared.faults.fault.Fault.{Fault}
use Rattle.sms_send.specs.declared.faults.fault.Fault.TheVariants.{OutOfMemory, Unmade, Unsettled}
use Rattle.sms_send.specs.declared.files.config_file.ConfigFile.{ConfigFile}
use Rattle.sms_send.specs.declared.files.named_files.NamedFiles.{NamedFiles}
use Rattle.sms_send.specs.declared.files.sending_input.NotedInput.{NotedInput}
use Rattle.sms_send.specs.declared.jobs.ledger_send.BegunRun.{BegunRun}
use Rattle.sms_send.specs.declared.jobs.ledger_send.Debtor.{Debtor}
use Rattle.sms_send.specs.declared.jobs.ledger_send.Plan.{Plan}
use Rattle.sms_send.specs.declared.sending.kept.Kept.{Kept}
use Rattle.sms_send.specs.declared.sending.target.TargetKind.{TargetKind}

-- ---- before its first request

-- what the messages and the tariff say beside a config, with the accounts of a ledger that the messages name
pub record IsNotedOn (octets : List ℕ) (config : Config) (named : NamedFiles) (s : State) (strict : Bool) (noted : NotedInput) (accounts : List ℕ) : Type 0 where
  pub accounts_are : accounts ≡ accounts_in s (records_of named.messages.items)
  pub files : NamedFiles
  pub accounts_in_files : files.accounts.items ≡ accounts
  pub messages : files.messages ≡ named.messages
  pub tariff : files.tariff ≡ named.tariff
  pub read : IsInputOf config files noted.input
  pub closed : strict ≡ true → ¬ EndsQuoted named.messages.items
  pub digests : noted.digests ≡ digests_of octets files.accounts.items files.messages.items (tariff_in files)

abbrev pub FailsNotedOn : Config → NamedFiles → State → Bool → Fault → Type 0
FailsNotedOn config named s strict fault =
    (fault ≡ OutOfMemory)
    ⊎ ((files : NamedFiles) × (files.accounts.items ≡ accounts_in s (records_of named.messages.items)) × (files.messages ≡ named.messages) × (files.tariff ≡ named.tariff) × IsFaultOfOctets strict config files fault)

-- the run's name, what it takes, what stands before its journal, and what comes back where nothing is sent
pub record IsPlanOf (time : ℕ) (octets journal : List ℕ) (noted : NotedInput) (accounts : List ℕ) (s t : State) (plan : Plan) : Type 0 where
  pub run : plan.debtor.run ≡ run_name time journal octets
  pub names : HaveNames noted.input.openings.items plan.debtor.accounts.items
  pub unused : AreRowsOf noted.input.openings.items [] plan.debtor.unused.items
  pub input : plan.input ≡ noted.input
  pub digests : plan.digests ≡ noted.digests
  pub head : plan.head.items ≡ run_head plan.debtor.run accounts
  pub posted : ArePosted time (takings_for plan.debtor.run plan.debtor.accounts.items noted.input.openings.items) s t (string_bytes plan.lines)

abbrev pub FailsPlan : ℕ → List ℕ → List ℕ → Input → State → Fault → Type 0
FailsPlan time octets journal input s fault =
    LacksNames input.openings.items fault
    ⊎ ((names : List (List ℕ)) × HaveNames input.openings.items names × RefusesAt (takings_for (run_name time journal octets) names input.openings.items) s fault)

-- a file was made by a name, and has this alone
abbrev pub IsHeadedFile : {F : Type 0} → (F → Option (List ℕ)) → (F → Type 0) → List ℕ → F → Type 0
IsHeadedFile {F} contents made head file = (first : F) × made first × Appends (contents first) (contents file) head

-- none could be made by a name, for this reason; the fault has that name
abbrev pub IsUnmadeBy : (List ℕ → Type 0) → List ℕ → Fault → Type 0
IsUnmadeBy refuses name fault = (kind : ErrorKind) × (text : String Global) × (string_bytes text ≡ name) × (fault ≡ Unmade text kind) × refuses name

-- none is made, or it didn't take that
abbrev pub FailsHead : {F : Type 0} → (List ℕ → F → Type 0) → (List ℕ → Type 0) → (List ℕ → Type 0) → JournalFile → Fault → Type 0
FailsHead makes refuses holds wanted fault = (fault ≡ OutOfMemory) ⊎ IsHeld holds (string_bytes wanted.name) fault ⊎ IsUnmadeBy refuses (string_bytes wanted.name) fault ⊎ LacksFirstLine fault

-- a run is begun on the ledger of a file: what it takes is booked there, and its journal has its name and its accounts. (Each is on the disk before what follows it.)
pub record BeginsOn {F J : Type 0} (makes : List ℕ → J → Type 0) (contents : J → Option (List ℕ)) (octets stored : F → Option (List ℕ)) (read : ConfigFile) (named : NamedFiles) (wanted : JournalFile) (strict : Bool) (old new : F) (begun : BegunRun J) : Type 0 where
  pub accounts : List ℕ
  pub takes : TakesOut octets stored begun.debtor.run accounts (records_of named.messages.items) begun.input.openings.items old new
  pub names : HaveNames begun.input.openings.items begun.debtor.accounts.items
  pub unused : AreRowsOf begun.input.openings.items [] begun.debtor.unused.items
  pub noted : NotedInput
  pub is : IsNotedOn read.octets.items read.config named takes.before strict noted accounts
  pub input : begun.input ≡ noted.input
  pub digests : begun.digests ≡ noted.digests
  pub journal : IsHeadedFile contents (makes (string_bytes wanted.name)) (run_head begun.debtor.run accounts) begun.journal

-- none is: nothing is taken, but where an append failed
abbrev pub FailsBeginOn : {F : Type 0} → (Fault → Type 0) → (ErrorKind → Type 0) → (F → Option (List ℕ)) → ConfigFile → NamedFiles → Bool → F → F → Fault → Type 0
FailsBeginOn head errs octets read named strict old new fault =
    (Keeps (octets old) (octets new) × (FailsReading errs octets old fault ⊎ (fault ≡ OutOfMemory) ⊎ head fault
    ⊎ ((text : List ℕ) × (s : State) × IsRead octets old text s
    × (FailsNotedOn read.config named s strict fault ⊎ ((time : ℕ) × (journal : List ℕ) × (input : Input) × FailsPlan time text journal input s fault)))))
    ⊎ ((text lines : List ℕ) × (s : State) × IsRead octets old text s × FailsToStand errs text (octets old) (octets new) lines fault)

-- ---- at its end

abbrev pub ReturnsBooked : {F : Type 0} → (List ℕ → F → Type 0) → (F → Option (List ℕ)) → (F → Option (List ℕ)) → (F → ℕ) → (F → Type 0) → List ℕ → Debtor → List RunRow → Type 0
ReturnsBooked holds octets stored opening is_closed ledger debtor rows = (lines : List ℕ) × GivesBackIn holds octets stored opening is_closed ledger debtor.run debtor.accounts.items rows lines

abbrev pub FailsReturns : {F : Type 0} → (List ℕ → F → Type 0) → (List ℕ → LedgerFailure → Type 0) → (ErrorKind → Type 0) → (F → Option (List ℕ)) → (F → ℕ) → (F → Type 0) → List ℕ → Debtor → List RunRow → Fault → Type 0
FailsReturns holds lacks errs octets opening is_closed ledger debtor rows fault = FailsGivingBackIn holds lacks errs octets opening is_closed ledger debtor.run debtor.accounts.items rows fault

-- the workers were told to go
abbrev pub has_gone : StartPhase → Bool
has_gone (Released Go) = true
has_gone begun = false

-- the rows of what comes back at the end of a run: those of its statement, by what is kept of its sending, and none where messages are left, so that it may go on. Where nothing is kept, all that
-- it took comes back if its workers were never told to go; else its journal has what is to come back
abbrev pub rows_due : Debtor → StartPhase → Option Kept → Option (List RunRow)
rows_due debtor begun None = if has_gone begun then None else Some debtor.unused.items
rows_due debtor begun (Some kept) = if kept.left == 0 then Some kept.rows.items else None

-- what is kept of a sending is settled: the rows of its statement are given back, where no message is left
abbrev pub IsSettled : (List RunRow → Type 0) → Option Kept → Type 0
IsSettled returns None = ⊥
IsSettled returns (Some kept) = kept.left ≡ 0 → returns kept.rows.items

-- why what comes back isn't booked: the ledger can't be used, or it refuses that; or nothing is kept of a sending that was printed
abbrev pub FailsToSettle : (List RunRow → Fault → Type 0) → Option (List RunRow) → Bool → Fault → Type 0
FailsToSettle fails due is_sent why = ((why ≡ OutOfMemory) × (is_sent ≡ true)) ⊎ ((rows : List RunRow) × (due ≡ Some rows) × fails rows why)

-- a fault of the sending stays the fault, whether what comes back is booked or can't be; and where it has none, why its statement isn't booked is the fault
abbrev pub FailsEnding : (List RunRow → Type 0) → (List RunRow → Fault → Type 0) → Option (List RunRow) → Result ℕ Fault → Fault → Type 0
FailsEnding returns fails due sent fault =
    ((sent ≡ Err fault) × IfSome due (λ rows. returns rows ⊎ ((why : Fault) × fails rows why)))
    ⊎ ((status : ℕ) × (sent ≡ Ok status) × (why : Fault) × (fault ≡ Unsettled (unsettled_by why)) × FailsToSettle fails due true why)

-- a run ended: its statement is booked, or it failed so
pub record EndsOn {F : Type 0} (holds : List ℕ → F → Type 0) (lacks : List ℕ → LedgerFailure → Type 0) (errs : ErrorKind → Type 0) (octets stored : F → Option (List ℕ)) (opening : F → ℕ) (is_closed : F → Type 0) (ledger : List ℕ) (debtor : Debtor) (begun : StartPhase) (kept : Option Kept) (sent result : Result ℕ Fault) : Type 0 where
  pub ended : IfOk result (λ status. (sent ≡ Ok status) × IsSettled (ReturnsBooked holds octets stored opening is_closed ledger debtor) kept)
  pub failed : IfErr result (FailsEnding (ReturnsBooked holds octets stored opening is_closed ledger debtor) (FailsReturns holds lacks errs octets opening is_closed ledger debtor) (rows_due debtor begun kept) sent)

-- ---- the jobs

-- by a config and messages that were read: the accounts that the messages name were opened with all that the ledger of a name had free of them, that was taken, the messages were sent, and
-- what came back is what the statement says that was printed. The journal begins with the name of the run that took that, and with its accounts, and ends with the note of its end
pub record SendsLedger {F J : Type 0} (makes : List ℕ → J → Type 0) (contents : J → Option (List ℕ)) (tells : CentreAt → Bool → ℕ → ℕ → Told) (kind : TargetKind) (holds : List ℕ → F → Type 0) (octets stored : F → Option (List ℕ)) (opening : F → ℕ) (is_closed : F → Type 0) (ledger : List ℕ) (again : Option Again) (strict : Bool) (named : NamedFiles) (wanted : JournalFile) (old new : Option (List ℕ)) (status : ℕ) (config : Config) : Type 0 where
  pub debtor : Debtor
  pub accounts : List ℕ
  pub input : Input
  pub taken : DoneIn holds opening is_closed ledger (TakesOut octets stored debtor.run accounts (records_of named.messages.items) input.openings.items)
  pub names : HaveNames input.openings.items debtor.accounts.items
  pub files : NamedFiles
  pub accounts_are : files.accounts.items ≡ accounts
  pub messages_are : files.messages ≡ named.messages
  pub tariff_is : files.tariff ≡ named.tariff
  pub read : IsInputOf config files input
  pub closed : strict ≡ true → ¬ EndsQuoted named.messages.items
  pub sends : SendsInput (tells (centre_in kind config) true) again strict input old new status
  pub noted : IsNotedIn contents (IsHeadedFile contents (makes (string_bytes wanted.name)) (run_head debtor.run accounts)) status
  pub kept : Option Kept
  pub keeps : KeepsThrough old new (Ok status) kept
  pub settled : IsSettled (ReturnsBooked holds octets stored opening is_closed ledger debtor) kept

abbrev pub SendsOn : {F J : Type 0} → (List ℕ → J → Type 0) → (J → Option (List ℕ)) → (List ℕ → Option Told → Type 0) → (CentreAt → Bool → ℕ → ℕ → Told) → TargetKind → (List ℕ → F → Type 0) → (F → Option (List ℕ)) → (F → Option (List ℕ)) → (F → ℕ) → (F → Type 0) → List ℕ → SendArgs → Option (List ℕ) → Option (List ℕ) → ℕ → Type 0
SendsOn makes contents finds tells kind holds octets stored opening is_closed ledger order old new status =
    OfConfig finds (string_bytes order.config) (λ config. AreFieldsAt finds (bytes_of order.fields) config.fields
    × (named : NamedFiles) × HasMessages finds config.files named × (wanted : JournalFile) × (order.journal ≡ Some wanted)
    × SendsLedger makes contents tells kind holds octets stored opening is_closed ledger order.again order.strict named wanted old new status config)

-- ---- why they fail

-- how a sending with the run's credits ended: it was sent, or why it wasn't
abbrev pub EndsInput : CentreAt → (ℕ → ℕ → Told) → Option Again → Bool → Input → Option (List ℕ) → Option (List ℕ) → Result ℕ Fault → Type 0
EndsInput centre tells again strict input old new sent = IfOk sent (SendsInput tells again strict input old new) × IfErr sent (FailsNoted LacksFirstLine centre tells again strict input old new)

-- the credits were taken, and the sending failed in this phase, or giving back did behind the report
pub record FailsOnCredits {F : Type 0} (tells : CentreAt → Bool → ℕ → ℕ → Told) (kind : TargetKind) (holds : List ℕ → F → Type 0) (lacks : List ℕ → LedgerFailure → Type 0) (errs : ErrorKind → Type 0) (octets stored : F → Option (List ℕ)) (opening : F → ℕ) (is_closed : F → Type 0) (ledger : List ℕ) (again : Option Again) (strict : Bool) (named : NamedFiles) (begun : StartPhase) (old new : Option (List ℕ)) (fault : Fault) (config : Config) : Type 0 where
  pub debtor : Debtor
  pub accounts : List ℕ
  pub input : Input
  pub taken : DoneIn holds opening is_closed ledger (TakesOut octets stored debtor.run accounts (records_of named.messages.items) input.openings.items)
  pub names : HaveNames input.openings.items debtor.accounts.items
  pub unused : AreRowsOf input.openings.items [] debtor.unused.items
  pub sent : Result ℕ Fault
  pub sending : EndsInput (centre_in kind config) (tells (centre_in kind config) true) again strict input old new sent
  pub kept : Option Kept
  pub keeps : KeepsThrough old new sent kept
  pub ends : EndsOn holds lacks errs octets stored opening is_closed ledger debtor begun kept sent (Err fault)

-- or nothing was taken: the ledger can't be had, or the run can't be begun on it
abbrev pub FailsOnLedger : {F J : Type 0} → (List ℕ → J → Type 0) → (List ℕ → Type 0) → (List ℕ → Type 0) → (CentreAt → Bool → ℕ → ℕ → Told) → TargetKind → (List ℕ → F → Type 0) → (List ℕ → LedgerFailure → Type 0) → (ErrorKind → Type 0) → (F → Option (List ℕ)) → (F → Option (List ℕ)) → (F → ℕ) → (F → Type 0) → List ℕ → Option Again → Bool → ConfigFile → NamedFiles → JournalFile → StartPhase → Option (List ℕ) → Option (List ℕ) → Fault → Type 0
FailsOnLedger makes refuses held tells kind holds lacks errs octets stored opening is_closed ledger again strict read named wanted begun old new fault =
    LacksNamed lacks ledger fault
    ⊎ DoneIn holds opening is_closed ledger (λ first last. FailsBeginOn (FailsHead makes refuses held wanted) errs octets read named strict first last fault)
    ⊎ FailsOnCredits tells kind holds lacks errs octets stored opening is_closed ledger again strict named begun old new fault read.config

-- or the config, the fields, the messages or the tariff can't be had, or there is no inbox where one is asked for
abbrev pub FailsSendOn : {F J : Type 0} → (List ℕ → J → Type 0) → (List ℕ → Type 0) → (List ℕ → Type 0) → (List ℕ → Option Told → Type 0) → (CentreAt → Bool → ℕ → ℕ → Told) → TargetKind → (List ℕ → F → Type 0) → (List ℕ → LedgerFailure → Type 0) → (ErrorKind → Type 0) → (F → Option (List ℕ)) → (F → Option (List ℕ)) → (F → ℕ) → (F → Type 0) → List ℕ → SendArgs → StartPhase → Option (List ℕ) → Option (List ℕ) → Fault → Type 0
FailsSendOn makes refuses held finds tells kind holds lacks errs octets stored opening is_closed ledger order begun old new fault =
    (IsWords fault × (order.journal ≡ None)) ⊎ (fault ≡ OutOfMemory) ⊎ FailsReadingConfig finds order.config fault ⊎ FailsFields finds (bytes_of order.fields) fault
    ⊎ OfConfig finds (string_bytes order.config) (λ config. FailsMessages finds config.files fault ⊎ LacksInbox (bytes_of order.lines.inbox) config fault
    ⊎ (AreFieldsAt finds (bytes_of order.fields) config.fields × (named : NamedFiles) × HasMessages finds config.files named × (read : ConfigFile) × (read.config ≡ config) × (wanted : JournalFile) × (order.journal ≡ Some wanted)
    × FailsOnLedger makes refuses held tells kind holds lacks errs octets stored opening is_closed ledger order.again order.strict read named wanted begun old new fault))
