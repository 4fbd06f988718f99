-- The files that the program opens by their names, and why they can't be read.
-- What is found by a name is a relation of the world that the program runs in: nothing that can be opened, or a file, whose
-- octets may be known, from its first on.
use Rattle.std.specs.Prelude.{◌≡◌, ◌≢◌, ◌⊎◌, ℕ, List, [], Option, Some, None, IfSome, String, string_bytes}
use Rattle.std.specs.declared.alloc.Global.{Global}
use Rattle.std.specs.declared.io.ErrorKind.{ErrorKind}
use Rattle.sms_pdu.specs.declared.device_error.DeviceError.{DeviceError}
use Rattle.sms_files.specs.Inputs.{Told}
use Rattle.sms_files.specs.Records.{TellsRecords, Trouble}
use Rattle.sms_files.specs.declared.config.FileNames.{FileNames}
use Rattle.sms_files.specs.declared.fault.Source.{Source}
use Rattle.sms_send.specs.Faults.{IsReadFault, output_failed}
use Rattle.sms_send.specs.declared.faults.fault.Fault.{Fault}
use Rattle.sms_send.specs.declared.faults.fault.Fault.TheVariants.{File, UnreadFile}

-- it holds of an input's bytes, where they are known
abbrev pub OfInput : {I : Type 0} → (I → Told) → (List ℕ → Type 0) → Type 0
OfInput {I} remaining P = (input : I) × IfSome (remaining input) P

-- a file is found by a name
abbrev pub IsFound : (List ℕ → Option Told → Type 0) → List ℕ → Type 0
IsFound finds name = (told : Told) × finds name (Some told)

-- it holds of the bytes of the file that is found by a name, where they are known
abbrev pub OfFile : (List ℕ → Option Told → Type 0) → List ℕ → (List ℕ → Type 0) → Type 0
OfFile finds name P = (told : Told) × finds name (Some told) × IfSome told P

-- a file is found just where it has a name, and by that
abbrev pub IsNamed : (List ℕ → Option Told → Type 0) → List ℕ → Option Told → Type 0
IsNamed finds name None = name ≡ []
IsNamed finds name (Some told) = (name ≢ []) × finds name (Some told)

-- these files are found by the names, that of the tariff just where it has one
abbrev pub AreFound : (List ℕ → Option Told → Type 0) → FileNames → Told → Told → Option Told → Type 0
AreFound finds names accounts messages tariff =
    finds (string_bytes names.accounts) (Some accounts) × finds (string_bytes names.messages) (Some messages) × IsNamed finds (string_bytes names.tariff) tariff

-- no file that can be opened is found by a name
abbrev pub FailsOpening : (List ℕ → Option Told → Type 0) → String Global → Fault → Type 0
FailsOpening finds name fault = ((kind : ErrorKind) × (fault ≡ File name kind)) × finds (string_bytes name) None

-- a file's octets can't be had, and the fault has its name: none that can be opened is found by that, or one is found, which can't be
-- read; a body has a `DeviceError` only of a file that answered an error
abbrev pub FailsReadingFile : (List ℕ → Option Told → Type 0) → String Global → Fault → Type 0
FailsReadingFile finds name fault = FailsOpening finds name fault ⊎ (((error : DeviceError) × (kind : ErrorKind) × (fault ≡ UnreadFile name error kind)) × IsFound finds (string_bytes name))

-- one of them can't be opened, and those before it are found: accounts, messages, tariff
abbrev pub FailsOpeningFiles : (List ℕ → Option Told → Type 0) → FileNames → Fault → Type 0
FailsOpeningFiles finds names fault =
    FailsOpening finds names.accounts fault
    ⊎ (FailsOpening finds names.messages fault × IsFound finds (string_bytes names.accounts))
    ⊎ (FailsOpening finds names.tariff fault × (string_bytes names.tariff ≢ []) × IsFound finds (string_bytes names.accounts) × IsFound finds (string_bytes names.messages))

-- why a job on a source failed, of whose records this is the first faulty one: that one, or the device; or the output, where
-- no record was faulty
abbrev pub FailsFileJob : Source → Option Trouble → Fault → Type 0
FailsFileJob source faulty f = IsReadFault (TellsRecords source faulty) f ⊎ ((f ≡ output_failed) × (faulty ≡ None))
