-- The first line of a fault, the exit status that it ends the program with, and the faults that those of the crates below become.
use Rattle.std.specs.Prelude.{◌≡◌, ◌⊎◌, ⊤, ℕ, None, Some, String, List, ◌++◌, codes, decimal, string_bytes}
use Rattle.std.specs.declared.alloc.Global.{Global}
use Rattle.sms_send.specs.Shown.{shown}
use Rattle.sms_send.specs.declared.faults.argument_error.ArgumentError.{ArgumentError}
use Rattle.sms_send.specs.declared.faults.fault.Fault.{Fault}
use Rattle.sms_send.specs.declared.faults.ledger_run.Unsettled.{Unsettled as WhyUnsettled}
use Rattle.sms_send.specs.declared.faults.ledger_run.Unsettled.TheVariants as unsettled
use Rattle.sms_send.specs.declared.faults.fault.Fault.TheVariants.{Words, Help, Version, File, UnreadFile, Unreadable, BadRecord, NotToml, BadKey, NotFields, BadField, BindRefused, BindFailed, Unconnected, BadNote, BadReport, BadReceived, InboxMode, Unmade, JournalHeld, JournalFree, Unbegun, Journal, Overdrawn, Trial, OtherFile, OtherAttempts, OtherReference, LongSchedule, LedgerFile, Ledger, BadEntry, Payment, Booking, BadDecision, LedgerRun, Unsettled, Output, OutOfMemory, Unreported}
use Rattle.sms_devices.specs.declared.transport.connecting.Unconnected.{Unconnected as Why}
use Rattle.sms_devices.specs.declared.journal.failure.JournalFailure.{JournalFailure}
use Rattle.sms_devices.specs.declared.ledger.failure.LedgerFailure.{LedgerFailure}
use Rattle.sms_devices.specs.declared.ledger.failure.LedgerFailure.TheVariants as ledger
use Rattle.sms_driver.specs.declared.fault.BindFailure.TheVariants as failure
use Rattle.sms_driver.specs.declared.fault.SendFault.{SendFault}
use Rattle.sms_driver.specs.declared.fault.SendFault.TheVariants as send
use Rattle.sms_driver.specs.declared.start_gate.Command.TheVariants.{Go, Leave}
use Rattle.sms_driver.specs.declared.start.StartPhase.{StartPhase}
use Rattle.sms_driver.specs.declared.start.StartPhase.TheVariants.{Idle, Released}
use Rattle.sms_files.specs.Faults.{source_name}
use Rattle.sms_files.specs.declared.fault.InputFault.{InputFault}
use Rattle.sms_files.specs.declared.fault.InputFault.TheVariants as input
use Rattle.sms_journal.specs.declared.decisions.fault.DecisionFault.{DecisionFault}
use Rattle.sms_journal.specs.declared.decisions.fault.DecisionFault.TheVariants as decisions
use Rattle.sms_journal.specs.declared.text.digests.RunFile.{RunFile}
use Rattle.sms_journal.specs.declared.text.digests.RunFile.TheVariants.{Accounts, Attempts, Config, LongReference, Messages, Tariff}
use Rattle.sms_journal.specs.declared.audit.fault.AuditFault.{AuditFault}
use Rattle.sms_journal.specs.declared.audit.fault.AuditFault.TheVariants as audit
use Rattle.sms_journal.specs.declared.recovery.fault.RecoveryFault.{RecoveryFault}
use Rattle.sms_journal.specs.declared.recovery.fault.RecoveryFault.TheVariants as recovery
use Rattle.sms_ledger.specs.declared.fault.Fault.{Fault as LedgerFault}
use Rattle.sms_ledger.specs.declared.fault.Fault.TheVariants as flaw
use Rattle.sms_ledger.specs.declared.refusal.Refusal.{Refusal}
use Rattle.sms_ledger.specs.declared.refusal.Refusal.TheVariants as refusal
use Rattle.sms_files.specs.declared.report.fault.OutputFault.{OutputFault}
use Rattle.sms_files.specs.declared.report.fault.OutputFault.TheVariants as output

-- the fault of an output that failed; a body has an `Unwritten` to tell only of an output that answered an error
abbrev pub output_failed : Fault
output_failed = Output tt

-- the fault of a report for which memory was refused; a body has the evidence of that only where it was
abbrev pub unreported : Fault
unreported = Unreported tt

-- the journal failed once messages were sent, for whatever reason
abbrev pub HasLostJournal : Fault → Type 0
HasLostJournal fault = (why : JournalFailure) × (fault ≡ Journal why)

-- the statement of a run wasn't booked behind its report, for whatever reason
abbrev pub IsUnsettled : Fault → Type 0
IsUnsettled fault = (why : WhyUnsettled) × (fault ≡ Unsettled why)

-- the arguments are refused, for whatever reason
abbrev pub IsWords : Fault → Type 0
IsWords fault = (why : ArgumentError) × (fault ≡ Words why)

-- help and the version are the parser's own texts
abbrev pub fault_text : Fault → List ℕ
fault_text (Words why) = codes "fault: words"
fault_text (Help text) = string_bytes text
fault_text (Version text) = string_bytes text
fault_text (File name kind) = codes "fault: file " ++ shown (string_bytes name)
fault_text (UnreadFile name error kind) = codes "fault: file " ++ shown (string_bytes name)
fault_text (Unreadable source error) = codes "fault: file " ++ source_name source
fault_text (BadRecord source place record_flaw) = codes "fault: " ++ source_name source ++ codes " record " ++ decimal place
fault_text (NotToml flaw) = codes "fault: config"
fault_text (BadKey key found) = codes "fault: config " ++ shown (string_bytes key)
fault_text (NotFields flaw) = codes "fault: fields"
fault_text (BadField key found) = codes "fault: fields " ++ shown (string_bytes key)
fault_text (BindRefused bind status) = codes "fault: bind " ++ decimal bind ++ codes " refused " ++ decimal status
fault_text (BindFailed bind why) = codes "fault: bind " ++ decimal bind ++ codes " failed"
fault_text (Unconnected reason) = codes "fault: bind " ++ decimal reason.bind ++ codes " failed"
fault_text (BadNote place) = codes "fault: journal record " ++ decimal place
fault_text (BadReport place) = codes "fault: report record " ++ decimal place
fault_text (BadReceived place) = codes "fault: inbox record " ++ decimal place
fault_text InboxMode = codes "fault: config mode"
fault_text (Unmade name kind) = codes "fault: file " ++ shown (string_bytes name)
fault_text JournalHeld = codes "fault: journal"
fault_text JournalFree = codes "fault: journal"
fault_text (Unbegun why) = codes "fault: journal"
fault_text (Journal why) = codes "fault: journal"
fault_text Overdrawn = codes "fault: journal"
fault_text Trial = codes "fault: journal of a trial: no message centre saw any of it"
fault_text (OtherFile name) = codes "fault: journal record 1"
fault_text OtherAttempts = codes "fault: journal record 1"
fault_text OtherReference = codes "fault: journal record 1"
fault_text LongSchedule = codes "fault: schedule"
fault_text (LedgerFile name kind) = codes "fault: file " ++ shown (string_bytes name)
fault_text (Ledger why) = codes "fault: ledger"
fault_text (BadEntry place cause) = codes "fault: ledger record " ++ decimal place
fault_text (Payment cause) = codes "fault: payment"
fault_text (Booking cause) = codes "fault: booking"
fault_text (BadDecision place) = codes "fault: decisions record " ++ decimal place
fault_text (LedgerRun why) = codes "fault: ledger run"
fault_text (Unsettled why) = codes "fault: unsettled"
fault_text (Output unwritten) = codes "fault: output"
fault_text OutOfMemory = codes "fault: out of memory"
fault_text (Unreported refused) = codes "fault: out of memory"

abbrev pub status_of : Fault → ℕ
status_of (Words why) = 2
status_of (Help text) = 0
status_of (Version text) = 0
status_of (BindRefused bind status) = 3
status_of (BindFailed bind why) = 3
status_of (Unconnected reason) = 3
status_of _ = 1

-- the program's fault for what is wrong with what was read
abbrev pub fault_of_input : InputFault → Fault
fault_of_input (input.Unreadable source error) = Unreadable source error
fault_of_input (input.BadRecord source place record_flaw) = BadRecord source place record_flaw
fault_of_input (input.NotToml flaw) = NotToml flaw
fault_of_input (input.BadKey key found) = BadKey key found
fault_of_input (input.OutOfMemory refused) = OutOfMemory

-- for what is wrong with a fields file
abbrev pub fault_of_fields : InputFault → Fault
fault_of_fields (input.Unreadable source error) = Unreadable source error
fault_of_fields (input.BadRecord source place record_flaw) = BadRecord source place record_flaw
fault_of_fields (input.NotToml flaw) = NotFields flaw
fault_of_fields (input.BadKey key found) = BadField key found
fault_of_fields (input.OutOfMemory refused) = OutOfMemory

-- for why nothing is sent; a thread that is refused counts as memory, and so do accounts that no book opens with
abbrev pub fault_of_sending : SendFault → Fault
fault_of_sending (send.BindRefused bind status) = BindRefused bind status
fault_of_sending (send.BindFailed bind why) = BindFailed bind why
fault_of_sending (send.BookRefused why) = OutOfMemory
fault_of_sending send.ThreadRefused = OutOfMemory
fault_of_sending send.OutOfMemory = OutOfMemory

-- the phase of a sending in which a fault comes, so that it says whether messages may have been sent: words, files, journal and binds are had before a worker is started; if
-- memory or a thread is refused none was started, or all were ordered to leave; the report, and the end of the journal, come after all were started. No other fault
-- is a sending's
abbrev pub ComesAt : StartPhase → Fault → Type 0
ComesAt begun (File name kind) = begun ≡ Idle
ComesAt begun (UnreadFile name error kind) = begun ≡ Idle
ComesAt begun (Unreadable source error) = begun ≡ Idle
ComesAt begun (BadRecord source place record_flaw) = begun ≡ Idle
ComesAt begun (NotToml flaw) = begun ≡ Idle
ComesAt begun (BadKey key found) = begun ≡ Idle
ComesAt begun (NotFields flaw) = begun ≡ Idle
ComesAt begun (BadField key found) = begun ≡ Idle
ComesAt begun (BindRefused bind status) = begun ≡ Idle
ComesAt begun (BindFailed bind why) = begun ≡ Idle
ComesAt begun (Unconnected reason) = begun ≡ Idle
ComesAt begun JournalHeld = begun ≡ Idle
ComesAt begun (BadReceived place) = begun ≡ Idle
ComesAt begun InboxMode = begun ≡ Idle
ComesAt begun (Unmade name kind) = begun ≡ Idle
ComesAt begun (Unbegun why) = begun ≡ Idle
ComesAt begun (LedgerFile name kind) = begun ≡ Idle
ComesAt begun (Ledger why) = begun ≡ Idle
ComesAt begun (BadEntry place cause) = begun ≡ Idle
ComesAt begun (Booking cause) = begun ≡ Idle
ComesAt begun (Unsettled why) = begun ≡ Released Go
ComesAt begun (Journal why) = begun ≡ Released Go
ComesAt begun (Output unwritten) = begun ≡ Released Go
ComesAt begun OutOfMemory = (begun ≡ Idle) ⊎ (begun ≡ Released Leave)
ComesAt begun (Unreported refused) = begun ≡ Released Go
ComesAt begun (Words why) = begun ≡ Idle
ComesAt begun _ = ⊥

-- the fault of a bind without a connection gets the reason of that bind, and each other stays as it is
abbrev pub with_reason : Why → Fault → Fault
with_reason why (BindFailed bind failure.NoConnection) = Unconnected (record { bind = bind; why = why })
with_reason why fault = fault

-- the fault is one of which this holds, with its reason
abbrev pub HasReason : (Fault → Type 0) → Fault → Type 0
HasReason P fault = (f : Fault) × P f × (why : Why) × (fault ≡ with_reason why f)

-- for what a journal of others is of: a key of the config, or a file that has no name here
abbrev pub fault_of_others : RunFile → Fault
fault_of_others Config = BadNote 1
fault_of_others Attempts = OtherAttempts
fault_of_others LongReference = OtherReference
fault_of_others Accounts = BadNote 1
fault_of_others Messages = BadNote 1
fault_of_others Tariff = BadNote 1

-- for why nothing is recovered
abbrev pub fault_of_recovery : RecoveryFault → Fault
fault_of_recovery (recovery.Input fault) = fault_of_input fault
fault_of_recovery (recovery.Journal place) = BadNote place
fault_of_recovery (recovery.OtherFiles what) = fault_of_others what
fault_of_recovery recovery.Trial = Trial
fault_of_recovery recovery.Overdrawn = Overdrawn
fault_of_recovery (recovery.Report place) = BadReport place
fault_of_recovery (recovery.Output unwritten) = Output unwritten
fault_of_recovery (recovery.OutOfMemory refused) = OutOfMemory

-- it is a file, and no key of the config
abbrev pub IsFile : RunFile → Type 0
IsFile Config = ⊤
IsFile Attempts = ⊥
IsFile LongReference = ⊥
IsFile Accounts = ⊤
IsFile Messages = ⊤
IsFile Tariff = ⊤

-- it is that fault, or has the name of the file of which the journal isn't
abbrev pub IsFaultOfRecovery : RecoveryFault → Fault → Type 0
IsFaultOfRecovery f fault =
    (fault ≡ fault_of_recovery f) ⊎ ((file : RunFile) × (f ≡ recovery.OtherFiles file) × IsFile file × (name : String Global) × (fault ≡ OtherFile name))

-- of an audit: the run is refused, or its schedule is too long
abbrev pub fault_of_audit : AuditFault → Fault
fault_of_audit (audit.Run f) = fault_of_recovery f
fault_of_audit audit.TooLong = LongSchedule

-- for why a text isn't written
abbrev pub fault_of_output : OutputFault → Fault
fault_of_output (output.Output unwritten) = Output unwritten
fault_of_output (output.OutOfMemory refused) = OutOfMemory

-- for what is wrong with a ledger's octets
abbrev pub fault_of_ledger : LedgerFault → Fault
fault_of_ledger (flaw.Unreadable place) = BadEntry place None
fault_of_ledger (flaw.Refused place cause) = BadEntry place (Some cause)
fault_of_ledger (flaw.Memory refused) = OutOfMemory

-- for why a payment isn't booked
abbrev pub fault_of_payment : Refusal → Fault
fault_of_payment (refusal.OutOfMemory refused) = OutOfMemory
fault_of_payment cause = Payment cause

-- for why an entry of a run isn't
abbrev pub fault_of_booking : Refusal → Fault
fault_of_booking (refusal.OutOfMemory refused) = OutOfMemory
fault_of_booking cause = Booking cause

-- for why a decisions file can't be used
abbrev pub fault_of_decisions : DecisionFault → Fault
fault_of_decisions (decisions.Record place) = BadDecision place
fault_of_decisions (decisions.OutOfMemory refused) = OutOfMemory

-- why a statement wasn't booked behind the report, by the fault of booking it
abbrev pub unsettled_by : Fault → WhyUnsettled
unsettled_by (LedgerFile name kind) = unsettled.File kind
unsettled_by (Ledger why) = unsettled.Use why
unsettled_by (BadEntry place cause) = unsettled.Record place cause
unsettled_by (Booking cause) = unsettled.Refused cause
unsettled_by _ = unsettled.OutOfMemory

-- for why a ledger's file can't be used
abbrev pub fault_of_use : LedgerFailure → Fault
fault_of_use (ledger.OutOfMemory refused) = OutOfMemory
fault_of_use why = Ledger why

-- and for why that of a name can't be had
abbrev pub fault_of_opening : String Global → LedgerFailure → Fault
fault_of_opening name (ledger.Unopened kind) = LedgerFile name kind
fault_of_opening name why = fault_of_use why

-- the fault is of something read, and this holds of that
abbrev pub IsReadFault : (InputFault → Type 0) → Fault → Type 0
IsReadFault P fault = (f : InputFault) × P f × (fault ≡ fault_of_input f)
