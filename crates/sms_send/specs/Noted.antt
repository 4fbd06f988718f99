-- What a sending with a journal promises beside one without.
use Rattle.std.specs.Prelude.{◌≡◌, ◌⊎◌, ℕ, Bool, List, Option, None, Some, String}
use Rattle.std.specs.declared.alloc.Global.{Global}
use Rattle.std.specs.declared.io.ErrorKind.{ErrorKind}
use Rattle.std.specs.String.{string_bytes}
use Rattle.sms_devices.specs.Centres.{CentreAt}
use Rattle.sms_devices.specs.Journals.{FromMade, HasEnded}
use Rattle.sms_devices.specs.declared.journal.files.Unmade.{Unmade as WhyUnmade}
use Rattle.sms_devices.specs.declared.journal.files.Unmade.TheVariants as unmade
use Rattle.sms_devices.specs.declared.journal.failure.JournalFailure.{JournalFailure}
use Rattle.sms_files.specs.Inputs.{Told}
use Rattle.sms_files.specs.declared.input.Input.{Input}
use Rattle.sms_journal.specs.Digests.{keyed, keys_of}
use Rattle.sms_journal.specs.declared.text.header.Digests.{Digests}
use Rattle.sms_journal.specs.declared.text.header.JournalKind.{JournalKind}
use Rattle.sms_journal.specs.declared.text.header.JournalKind.TheVariants.{Run, Trial}
use Rattle.sms_send.specs.Faults.{HasLostJournal}
use Rattle.sms_send.specs.Sent.{FailsSending, SendsWork}
use Rattle.sms_send.specs.declared.args.send_args.Again.{Again}
use Rattle.sms_send.specs.declared.args.send_args.JournalFile.{JournalFile}
use Rattle.sms_send.specs.declared.faults.fault.Fault.{Fault}
use Rattle.sms_send.specs.declared.faults.fault.Fault.TheVariants.{JournalHeld, OutOfMemory, Unbegun, Unmade}
use Rattle.sms_send.specs.declared.sending.target.Target.{Target}
use Rattle.sms_send.specs.declared.sending.work.Work.{Work}
use Rattle.sms_send.specs.declared.sending.work.Work.TheVariants.{All}
use Rattle.sms_send.specs.declared.sending.target.Target.TheVariants.{Loopback, Remote}

-- what the first line says of files with these digests, by their input: of a run that may have further rounds it is tied to no more of the config than its report
-- is computed by, so that the other keys may be changed before a later round
abbrev pub head_by : Option Again → Input → Digests → Digests
head_by None input digests = digests
head_by (Some again) input digests = keyed (keys_of input.config) digests

-- a file was made by the journal's name
abbrev pub IsMade : {F : Type 0} → (List ℕ → F → Type 0) → JournalFile → Type 0
IsMade {F} makes journal = (file : F) × makes (string_bytes journal.name) file

-- what a journal is of: of a trial where the messages go to a centre of the program's own
abbrev pub kind_of : Target → JournalKind
kind_of (Loopback bind_status answers) = Trial
kind_of (Remote host port) = Run

-- the fault where no file of this name was made for a journal
abbrev pub fault_of_unmade : String Global → WhyUnmade → Fault
fault_of_unmade name unmade.Held = JournalHeld
fault_of_unmade name (unmade.Failed kind) = Unmade name kind

-- the same by a name that is kept; none where memory is refused for a copy of it
abbrev pub IsUnmadeFor : List ℕ → WhyUnmade → Fault → Type 0
IsUnmadeFor name why fault = (fault ≡ OutOfMemory) ⊎ ((text : String Global) × (string_bytes text ≡ name) × (fault ≡ fault_of_unmade text why))

-- a process holds the journal of this name, as the system says
abbrev pub IsHeld : (List ℕ → Type 0) → List ℕ → Fault → Type 0
IsHeld holds name fault = (fault ≡ JournalHeld) × holds name

-- none could be made, for this reason
abbrev pub IsUnmade : (List ℕ → Type 0) → JournalFile → Fault → Type 0
IsUnmade refuses journal fault = (kind : ErrorKind) × (fault ≡ Unmade journal.name kind) × refuses (string_bytes journal.name)

-- a new file didn't take the first line, for this reason
abbrev pub LacksFirstLine : Fault → Type 0
LacksFirstLine fault = (why : JournalFailure) × (fault ≡ Unbegun why)

-- and one that is there no further round
abbrev pub TakesNoRound : Fault → Type 0
TakesNoRound fault = (why : JournalFailure) × (fault ≡ Unbegun why)

-- what was made by the journal's name didn't
abbrev pub IsUnbegun : {F : Type 0} → (List ℕ → F → Type 0) → JournalFile → Fault → Type 0
IsUnbegun makes journal fault = LacksFirstLine fault × IsMade makes journal

-- why a journal isn't begun: one of its name is held, none could be made, or what was made didn't take the first line
abbrev pub FailsBegin : {F : Type 0} → (List ℕ → F → Type 0) → (List ℕ → Type 0) → (List ℕ → Type 0) → JournalFile → Fault → Type 0
FailsBegin makes refuses holds journal fault =
    IsHeld holds (string_bytes journal.name) fault ⊎ IsUnmade refuses journal fault ⊎ IsUnbegun makes journal fault

-- a file that was made so was only written to since, and ends with the note that a run has ended with this status
pub record IsNotedIn {F : Type 0} (contents : F → Option (List ℕ)) (made : F → Type 0) (status : ℕ) : Type 0 where
  pub file : F
  pub is_made : FromMade contents made file
  pub ended : HasEnded contents status file

-- so does the file that was made by the journal's name, where one is wanted
abbrev pub NotesEnd : {F : Type 0} → (F → Option (List ℕ)) → (List ℕ → F → Type 0) → Option JournalFile → ℕ → Type 0
NotesEnd contents makes None status = Unit {0}
NotesEnd contents makes (Some journal) status = IsNotedIn contents (makes (string_bytes journal.name)) status

-- why what there is wasn't sent with a journal that was begun: the sending failed; or the journal failed after the report
abbrev pub FailsNotedWork : CentreAt → (ℕ → ℕ → Told) → Option Again → Bool → Work → Option (List ℕ) → Option (List ℕ) → Fault → Type 0
FailsNotedWork centre tells again strict work old new fault =
    FailsSending centre tells again work old new fault ⊎ (HasLostJournal fault × (status : ℕ) × SendsWork tells again strict work old new status)

-- why an input wasn't sent with a journal: that wasn't begun, and nothing was written; or it failed so
abbrev pub FailsNoted : (Fault → Type 0) → CentreAt → (ℕ → ℕ → Told) → Option Again → Bool → Input → Option (List ℕ) → Option (List ℕ) → Fault → Type 0
FailsNoted begins centre tells again strict input old new fault =
    (begins fault × (new ≡ old)) ⊎ FailsNotedWork centre tells again strict (All input) old new fault
