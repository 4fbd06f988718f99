-- A run that is asked to stop.
use Rattle.std.specs.Prelude.{◌≡◌, ◌⊎◌, ◌++◌, ℕ, List, Some, String, codes, string_bytes}
use Rattle.std.specs.declared.alloc.Global.{Global}
use Rattle.std.specs.declared.io.ErrorKind.{ErrorKind}
use Rattle.sms_devices.specs.Journals.{stop_sign_of}
use Rattle.sms_devices.specs.declared.journal.Journal.{Journal}
use Rattle.sms_send.specs.declared.faults.fault.Fault.{Fault}
use Rattle.sms_send.specs.declared.faults.fault.Fault.TheVariants.{JournalFree, OutOfMemory, Unmade}

-- the name of the stop sign of a run, by that of its journal
abbrev pub sign_of : List ℕ → List ℕ
sign_of journal = journal ++ codes ".stop"

-- the run that writes this journal looks for the sign beside the file of this name
abbrev pub LooksForSign : {F : Type 0} → List ℕ → Journal F → Type 0
LooksForSign name journal = (sign : String Global) × (stop_sign_of journal ≡ Some sign) × (string_bytes sign ≡ sign_of name)

-- a process held the journal, and was asked to stop by the sign beside it
abbrev pub StopsRun : (List ℕ → Type 0) → (List ℕ → List ℕ → Type 0) → List ℕ → Type 0
StopsRun holds stops journal = holds journal × stops journal (sign_of journal)

-- no process was found that holds the journal, memory was refused, or the system refuses to make the sign
abbrev pub FailsStop : (List ℕ → Type 0) → List ℕ → Fault → Type 0
FailsStop refuses journal fault =
    (fault ≡ JournalFree) ⊎ (fault ≡ OutOfMemory)
    ⊎ ((sign : String Global) × (kind : ErrorKind) × (string_bytes sign ≡ sign_of journal) × (fault ≡ Unmade sign kind) × refuses (string_bytes sign))
