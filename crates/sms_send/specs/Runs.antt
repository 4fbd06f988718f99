-- The files of a run as octets, and why they can't be had.
use Rattle.std.specs.Prelude.{◌≡◌, ◌≢◌, ◌⊎◌, ℕ, String, List, Option, Some, None, IfSome, length, option_map, string_bytes}
use Rattle.std.specs.declared.alloc.Global.{Global}
use Rattle.sms_files.specs.ConfigFaults.{IsConfig}
use Rattle.sms_files.specs.Inputs.{Told}
use Rattle.sms_files.specs.declared.config.Config.{Config}
use Rattle.sms_files.specs.declared.config.FileNames.{FileNames}
use Rattle.sms_files.specs.declared.fault.Source.{Source}
use Rattle.sms_files.specs.declared.fault.Source.TheVariants.{Accounts, Messages, Tariff}
use Rattle.sms_pdu.specs.declared.device_error.DeviceError.{DeviceError}
use Rattle.sms_send.specs.ConfigFiles.{FailsReadingConfig, OfConfig}
use Rattle.sms_journal.specs.OfLedger.{IsNoRunText, IsRunText, run_head}
use Rattle.sms_send.specs.Headed.{FailsMessages, HasMessages, IsNoWholeRun}
use Rattle.sms_send.specs.Opened.{AreFound, OfFile, FailsOpeningFiles, FailsReadingFile}
use Rattle.sms_send.specs.declared.faults.fault.Fault.{Fault}
use Rattle.sms_send.specs.declared.faults.fault.Fault.TheVariants.{OutOfMemory, Unreadable}
use Rattle.sms_send.specs.declared.files.config_file.ConfigFile.{ConfigFile}
use Rattle.sms_send.specs.declared.files.headed.RunParts.{RunParts}
use Rattle.sms_send.specs.declared.files.named_files.NamedFiles.{NamedFiles}
use Rattle.sms_send.specs.declared.files.run_files.RunFiles.{RunFiles}

-- the octets of the tariff, where there is one
abbrev pub tariff_in : NamedFiles → Option (List ℕ)
tariff_in files = option_map (λ tariff. tariff.items) files.tariff

-- the octets are those of a file that there may be
abbrev pub AreOfOne : Option Told → Option (List ℕ) → Type 0
AreOfOne None octets = octets ≡ None
AreOfOne (Some told) octets = (read : List ℕ) × (octets ≡ Some read) × IfSome told (λ bytes. read ≡ bytes)

-- the octets are those of opened files, as far as these are known
pub record AreOpened (accounts messages : Told) (tariff : Option Told) (files : NamedFiles) : Type 0 where
  pub accounts_are : IfSome accounts (λ bytes. files.accounts.items ≡ bytes)
  pub messages_are : IfSome messages (λ bytes. files.messages.items ≡ bytes)
  pub tariff_is : AreOfOne tariff (tariff_in files)

-- the octets are those of the files that are found by these names, of a tariff just where it has a name
abbrev pub AreNamed : (List ℕ → Option Told → Type 0) → FileNames → NamedFiles → Type 0
AreNamed finds names files = (accounts : Told) × (messages : Told) × (tariff : Option Told) × AreFound finds names accounts messages tariff × AreOpened accounts messages tariff files

-- what was written of a run is the file of a name: of a run of an accounts file that one whole, with the files that the config names; of a run of a ledger
-- what stands there behind its head, with the accounts that stand in the head and the messages and the tariff that the config names
abbrev pub AreWritten : (List ℕ → Option Told → Type 0) → FileNames → List ℕ → RunFiles → Option (List ℕ) → Type 0
AreWritten finds names written run None = AreNamed finds names run.named × OfFile finds written (λ bytes. (run.written.items ≡ bytes) × IsNoWholeRun bytes)
AreWritten finds names written run (Some name) =
    HasMessages finds names run.named × OfFile finds written (λ bytes. IsRunText name run.named.accounts.items run.written.items bytes) × (run.before ≡ length (run_head name run.named.accounts.items))

-- they are the config of a name, the files that it names, and the one of another name
pub record IsRun (finds : List ℕ → Option Told → Type 0) (name written : List ℕ) (run : RunFiles) : Type 0 where
  pub config_is : OfFile finds name (λ bytes. run.config.items ≡ bytes)
  pub config : Config
  pub says : IsConfig run.config.items config
  pub names_are : run.names ≡ config.files
  pub are : AreWritten finds config.files written run run.run

-- the same by a config that was read: the files that it names, and the one of a name
pub record IsRunBy (finds : List ℕ → Option Told → Type 0) (read : ConfigFile) (written : List ℕ) (run : RunFiles) : Type 0 where
  pub config_is : run.config ≡ read.octets
  pub names_are : run.names ≡ read.config.files
  pub are : AreWritten finds read.config.files written run run.run

-- they are those of a run of a ledger whose journal has these parts
pub record IsHeadedBy (finds : List ℕ → Option Told → Type 0) (read : ConfigFile) (parts : RunParts) (run : RunFiles) : Type 0 where
  pub config_is : run.config ≡ read.octets
  pub names_are : run.names ≡ read.config.files
  pub messages : HasMessages finds read.config.files run.named
  pub accounts : run.named.accounts ≡ parts.accounts
  pub written : run.written ≡ parts.journal
  pub name : run.run ≡ Some parts.run
  pub before : run.before ≡ parts.before

-- this source can't be read; only a device that answered an error gives a `DeviceError`
abbrev pub IsUnreadable : Source → Fault → Type 0
IsUnreadable source fault = (error : DeviceError) × (fault ≡ Unreadable source error)

-- why opened files have no octets: one can't be read, or memory ran out
abbrev pub FailsReadingOpened : Option Told → Fault → Type 0
FailsReadingOpened tariff fault =
    (fault ≡ OutOfMemory)
    ⊎ IsUnreadable Accounts fault
    ⊎ IsUnreadable Messages fault
    ⊎ (IsUnreadable Tariff fault × (tariff ≢ None))

-- why files of these names have none: one can't be opened, or one that was can't be read
abbrev pub FailsNamedFiles : (List ℕ → Option Told → Type 0) → FileNames → Fault → Type 0
FailsNamedFiles finds names fault =
    FailsOpeningFiles finds names fault ⊎ ((accounts : Told) × (messages : Told) × (tariff : Option Told) × AreFound finds names accounts messages tariff × FailsReadingOpened tariff fault)

-- why a run of a ledger has none: the file of a name is its journal, and its messages or its tariff can't be had
abbrev pub FailsHeaded : (List ℕ → Option Told → Type 0) → List ℕ → FileNames → Fault → Type 0
FailsHeaded finds written names fault = OfFile finds written (λ bytes. ¬ IsNoRunText bytes) × FailsMessages finds names fault

-- why a run has no files: its config can't be read, one of those that it names, or the one that was written of it
abbrev pub FailsRunFiles : (List ℕ → Option Told → Type 0) → String Global → String Global → Fault → Type 0
FailsRunFiles finds config written fault =
    FailsReadingConfig finds config fault
    ⊎ OfConfig finds (string_bytes config) (λ read. FailsNamedFiles finds read.files fault ⊎ FailsReadingFile finds written fault ⊎ FailsHeaded finds (string_bytes written) read.files fault)

-- the same of files whose names say this
abbrev pub FailsNamed : (List ℕ → Option Told → Type 0) → List ℕ → List ℕ → Fault → Type 0
FailsNamed finds config written fault = (c : String Global) × (w : String Global) × (string_bytes c ≡ config) × (string_bytes w ≡ written) × FailsRunFiles finds c w fault
