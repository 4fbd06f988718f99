-- The files of a run of a ledger: its accounts stand before its journal, and the config's accounts file isn't read.
use Rattle.std.specs.Prelude.{◌≡◌, ◌≢◌, ◌⊎◌, ℕ, List, [], Option, Some, None, Result, Ok, Err, String, Vec, MatchOption, length, option_map, string_bytes}
use Rattle.std.specs.declared.alloc.Global.{Global}
use Rattle.std.specs.declared.io.ErrorKind.{ErrorKind}
use Rattle.sms_files.specs.Inputs.{Told}
use Rattle.sms_files.specs.declared.config.FileNames.{FileNames}
use Rattle.sms_files.specs.declared.fault.Source.{Source}
use Rattle.sms_files.specs.declared.fault.Source.TheVariants.{Messages, Tariff}
use Rattle.sms_journal.specs.OfLedger.{IsCutHead, IsNoRunText, IsRunText, run_head}
use Rattle.sms_pdu.specs.declared.device_error.DeviceError.{DeviceError}
use Rattle.sms_send.specs.Opened.{IsFound, OfFile}
use Rattle.sms_send.specs.declared.faults.fault.Fault.{Fault}
use Rattle.sms_send.specs.declared.faults.fault.Fault.TheVariants.{File, OutOfMemory, Unreadable}
use Rattle.sms_send.specs.declared.files.headed.RunParts.{RunParts}
use Rattle.sms_send.specs.declared.files.named_files.NamedFiles.{NamedFiles}

-- octets are the journal of no run of a ledger, or a truncated head of one
abbrev pub IsNoWholeRun : List ℕ → Type 0
IsNoWholeRun text = IsNoRunText text ⊎ IsCutHead text

-- these are the parts of the journal of one
pub record HaveParts (text : List ℕ) (parts : RunParts) : Type 0 where
  pub is : IsRunText parts.run parts.accounts.items parts.journal.items text
  pub before : parts.before ≡ length (run_head parts.run parts.accounts.items)

-- what was written of a run has these parts, or none: it is the journal of no run of a ledger, or it couldn't be read
abbrev pub SplitsWritten : Result (Vec ℕ Global) Fault → Option RunParts → Type 0
SplitsWritten (Ok octets) parts = MatchOption parts (IsNoWholeRun octets.items) (HaveParts octets.items)
SplitsWritten (Err fault) parts = parts ≡ None

-- the octets of the tariff are those of the file that is found by its name, just where it has one
abbrev pub IsTariffNamed : (List ℕ → Option Told → Type 0) → List ℕ → Option (List ℕ) → Type 0
IsTariffNamed finds name None = name ≡ []
IsTariffNamed finds name (Some octets) = (name ≢ []) × OfFile finds name (λ bytes. octets ≡ bytes)

-- messages and tariff are those of the files that are found by these names
pub record HasMessages (finds : List ℕ → Option Told → Type 0) (names : FileNames) (files : NamedFiles) : Type 0 where
  pub messages : OfFile finds (string_bytes names.messages) (λ bytes. files.messages.items ≡ bytes)
  pub tariff : IsTariffNamed finds (string_bytes names.tariff) (option_map (λ tariff. tariff.items) files.tariff)

-- the file of a name can't be opened, with an error of this kind; the fault has its name, but where memory is refused for that
abbrev pub IsUnopened : List ℕ → ErrorKind → Fault → Type 0
IsUnopened name kind fault = (fault ≡ OutOfMemory) ⊎ ((text : String Global) × (string_bytes text ≡ name) × (fault ≡ File text kind))

-- why one of them can't be had: none that can be opened is found by its name, one is found that can't be read, or memory ran out
abbrev pub FailsOne : (List ℕ → Option Told → Type 0) → List ℕ → Source → Fault → Type 0
FailsOne finds name source fault =
    (fault ≡ OutOfMemory)
    ⊎ (((kind : ErrorKind) × (text : String Global) × (string_bytes text ≡ name) × (fault ≡ File text kind)) × finds name None)
    ⊎ (((error : DeviceError) × (fault ≡ Unreadable source error)) × IsFound finds name)

abbrev pub FailsMessages : (List ℕ → Option Told → Type 0) → FileNames → Fault → Type 0
FailsMessages finds names fault = FailsOne finds (string_bytes names.messages) Messages fault ⊎ FailsOne finds (string_bytes names.tariff) Tariff fault
