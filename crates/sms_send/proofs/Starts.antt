-- The phase of a sending in which a fault comes.
use Rattle.std.proofs.Common.{◌≡◌, ◌⊎◌, inl, inr, sym, subst, ℕ, Bool, true, false, List, Option, String, Global, Result, Err}
use Rattle.sms_devices.specs.declared.transport.connecting.Unconnected.{Unconnected as Why}
use Rattle.sms_driver.specs.declared.fault.BindFailure.TheVariants as failure
use Rattle.sms_driver.specs.declared.start_gate.Command.TheVariants.{Go}
use Rattle.sms_driver.specs.declared.start.StartPhase.{StartPhase}
use Rattle.sms_driver.specs.declared.start.StartPhase.TheVariants.{Idle, Released}
use Rattle.sms_files.specs.Inputs.{Told}
use Rattle.sms_files.specs.declared.config.Config.{Config}
use Rattle.sms_files.specs.declared.config.FileNames.{FileNames}
use Rattle.sms_files.specs.declared.fault.InputFault.{InputFault}
use Rattle.sms_files.specs.declared.fault.InputFault.TheVariants as input
use Rattle.sms_files.specs.declared.fault.Source.{Source}
use Rattle.sms_send.specs.Faults.{ComesAt, IsReadFault, fault_of_input, with_reason, output_failed, unreported}
use Rattle.sms_send.specs.Noted.{FailsBegin, LacksFirstLine}
use Rattle.sms_send.specs.Reading.{FailsReading, IsFaultOfOctets}
use Rattle.sms_send.specs.Opened.{FailsOpeningFiles, FailsReadingFile}
use Rattle.sms_send.specs.Sent.{deaf}
use Rattle.sms_send.specs.Runs.{FailsReadingOpened, IsUnreadable}
use Rattle.sms_send.specs.declared.faults.fault.Fault.{Fault}
use Rattle.std.specs.declared.io.ErrorKind.{ErrorKind}
use Rattle.sms_send.specs.declared.faults.fault.Fault.TheVariants.{BindFailed, File, OutOfMemory}
use Rattle.sms_send.specs.declared.args.send_args.JournalFile.{JournalFile}
use Rattle.sms_send.specs.declared.files.named_files.NamedFiles.{NamedFiles}

-- ---- before a worker is started

pub file_at : (b : StartPhase) (name : String Global) (fault : Fault) → b ≡ Idle → ((kind : ErrorKind) × (fault ≡ File name kind)) → ComesAt b fault
file_at b name fault yet (kind, is) = subst (ComesAt b) (sym is) yet

pub unreadable_at : (b : StartPhase) (source : Source) (fault : Fault) → b ≡ Idle → IsUnreadable source fault → ComesAt b fault
unreadable_at b source fault yet (error, is) = subst (ComesAt b) (sym is) yet

pub memory_at : (b : StartPhase) (fault : Fault) → b ≡ Idle → fault ≡ OutOfMemory → ComesAt b fault
memory_at b fault yet is = subst (ComesAt b) (sym is) (inl yet)

-- a centre of the program's own that can't listen
pub deaf_at : (b : StartPhase) (fault : Fault) → b ≡ Idle → fault ≡ deaf → ComesAt b fault
deaf_at b fault yet is = subst (ComesAt b) (sym is) yet

-- a file's octets, or no memory for them
pub octets_at : (finds : List ℕ → Option Told → Type 0) (b : StartPhase) (name : String Global) (fault : Fault) → b ≡ Idle → (fault ≡ OutOfMemory) ⊎ FailsReadingFile finds name fault → ComesAt b fault
octets_at finds b name fault yet (inl is) = memory_at b fault yet is
octets_at finds b name fault yet (inr (inl (is, lost))) = file_at b name fault yet is
octets_at finds b name fault yet (inr (inr ((error, kind, is), found))) = subst (ComesAt b) (sym is) yet

pub input_at : (b : StartPhase) (f : InputFault) → b ≡ Idle → ComesAt b (fault_of_input f)
input_at b (input.Unreadable source error) yet = yet
input_at b (input.BadRecord source place detail) yet = yet
input_at b (input.NotToml flaw) yet = yet
input_at b (input.BadKey key found) yet = yet
input_at b (input.OutOfMemory refused) yet = inl yet

-- a fault of what is read
pub read_at : (b : StartPhase) (P : InputFault → Type 0) (fault : Fault) → b ≡ Idle → IsReadFault P fault → ComesAt b fault
read_at b P fault yet (f, holds, is) = subst (ComesAt b) (sym is) (input_at b f yet)

pub opened_at : (b : StartPhase) (tariff : Option Told) (fault : Fault) → b ≡ Idle → FailsReadingOpened tariff fault → ComesAt b fault
opened_at b tariff fault yet (inl is) = memory_at b fault yet is
opened_at b tariff fault yet (inr (inl tells)) = unreadable_at b _ fault yet tells
opened_at b tariff fault yet (inr (inr (inl tells))) = unreadable_at b _ fault yet tells
opened_at b tariff fault yet (inr (inr (inr (tells, some)))) = unreadable_at b _ fault yet tells

pub missing_at : (finds : List ℕ → Option Told → Type 0) (names : FileNames) (b : StartPhase) (fault : Fault) → b ≡ Idle → FailsOpeningFiles finds names fault → ComesAt b fault
missing_at finds names b fault yet (inl (is, lost)) = file_at b _ fault yet is
missing_at finds names b fault yet (inr (inl ((is, lost), found))) = file_at b _ fault yet is
missing_at finds names b fault yet (inr (inr ((is, lost), some, accounts, messages))) = file_at b _ fault yet is

pub octets_read_at : (b : StartPhase) (strict : Bool) (config : Config) (named : NamedFiles) (fault : Fault) → b ≡ Idle → IsFaultOfOctets strict config named fault → ComesAt b fault
octets_read_at b strict config named fault yet (inl tells) = read_at b _ fault yet tells
octets_read_at b strict config named fault yet (inr (is, (some, read, tells))) = read_at b _ fault yet tells

pub reading_at : (b : StartPhase) (whole strict : Bool) (config : Config) (accounts messages : Told) (tariff : Option Told) (fault : Fault) → b ≡ Idle → FailsReading whole strict config accounts messages tariff fault → ComesAt b fault
reading_at b true strict config accounts messages tariff fault yet (inl tells) = opened_at b tariff fault yet tells
reading_at b true strict config accounts messages tariff fault yet (inr (named, are, tells)) = octets_read_at b strict config named fault yet tells
reading_at b false strict config accounts messages tariff fault yet tells = read_at b _ fault yet tells

-- ---- after all were started

-- the report wasn't written
pub unwritten_at : (b : StartPhase) (fault : Fault) → b ≡ Released Go → (fault ≡ output_failed) ⊎ (fault ≡ unreported) → ComesAt b fault
unwritten_at b fault gone (inl is) = subst (ComesAt b) (sym is) gone
unwritten_at b fault gone (inr is) = subst (ComesAt b) (sym is) gone

-- ---- with a reason

-- a fault is that of the sending, with a reason
abbrev pub IsOf : Result ℕ Fault → Fault → Type 0
IsOf x fault = (f : Fault) × (x ≡ Err f) × (why : Why) × (fault ≡ with_reason why f)

with_why_at : (b : StartPhase) (why : Why) (f : Fault) → ComesAt b f → ComesAt b (with_reason why f)
with_why_at b why (BindFailed bind failure.NoConnection) so = so
with_why_at b why f so = so

pub reason_at : (b : StartPhase) (why : Why) (f fault : Fault) → fault ≡ with_reason why f → ComesAt b f → ComesAt b fault
reason_at b why f fault is so = subst (ComesAt b) (sym is) (with_why_at b why f so)

-- ---- with a journal

pub unbegun_at : (b : StartPhase) (fault : Fault) → b ≡ Idle → LacksFirstLine fault → ComesAt b fault
unbegun_at b fault yet (why, is) = subst (ComesAt b) (sym is) yet

-- its file is held or can't be made, or what was made doesn't take the first line
pub begun_at : {F : Type 0} (makes : List ℕ → F → Type 0) (refuses holds : List ℕ → Type 0) (b : StartPhase) (journal : JournalFile) (fault : Fault)
    → b ≡ Idle → FailsBegin makes refuses holds journal fault → ComesAt b fault
begun_at makes refuses holds b journal fault yet (inl (is, held)) = subst (ComesAt b) (sym is) yet
begun_at makes refuses holds b journal fault yet (inr (inl (kind, is, refused))) = subst (ComesAt b) (sym is) yet
begun_at makes refuses holds b journal fault yet (inr (inr (lacks, made))) = unbegun_at b fault yet lacks
