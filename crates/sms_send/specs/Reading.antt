-- What is read for a sending: the files that its config names, beside the config.
-- The files are read as they are opened; where that is strict, or for a journal, to their ends before their records are looked at.
use Rattle.std.specs.Prelude.{◌≡◌, ◌⊎◌, ◌+◌, ℕ, Bool, true, false, List, Option, Some, length}
use Rattle.sms_files.specs.Inputs.{HasFiles, IsFaultOfFiles, Told}
use Rattle.sms_files.specs.Quoting.{EndsQuoted}
use Rattle.sms_files.specs.declared.config.Config.{Config}
use Rattle.sms_files.specs.declared.fault.InputFault.{InputFault}
use Rattle.sms_files.specs.Records.{IsBadRecord}
use Rattle.sms_files.specs.declared.flaw.Flaw.TheVariants.{OpenQuote}
use Rattle.sms_files.specs.declared.fault.Source.TheVariants.{Messages}
use Rattle.sms_files.specs.declared.input.Input.{Input}
use Rattle.sms_journal.specs.Digests.{digests_of}
use Rattle.sms_journal.specs.Files.{octets_read}
use Rattle.sms_journal.specs.declared.text.header.Digests.{Digests}
use Rattle.sms_send.specs.Faults.{IsReadFault}
use Rattle.sms_send.specs.Opened.{AreFound, FailsOpeningFiles}
use Rattle.sms_send.specs.Runs.{AreOpened, FailsReadingOpened, tariff_in}
use Rattle.sms_send.specs.declared.faults.fault.Fault.{Fault}
use Rattle.sms_send.specs.declared.files.named_files.NamedFiles.{NamedFiles}

-- the input has this config, and is what these files say
pub record IsInputBy (config : Config) (accounts messages : Told) (tariff : Option Told) (input : Input) : Type 0 where
  pub config_is : input.config ≡ config
  pub files : HasFiles accounts messages tariff input

-- ---- of octets that were read to the files' ends

abbrev pub IsInputOf : Config → NamedFiles → Input → Type 0
IsInputOf config named input = IsInputBy config (Some named.accounts.items) (Some named.messages.items) (octets_read (tariff_in named)) input

-- the messages file ends within a quote: the fault is of the last record of what was read of it
abbrev pub IsOpenQuoteOf : NamedFiles → Input → InputFault → Type 0
IsOpenQuoteOf named input fault = EndsQuoted named.messages.items × IsBadRecord Messages (length input.messages.items + 1) OpenQuote fault

abbrev pub IsOpenQuote : Config → NamedFiles → Fault → Type 0
IsOpenQuote config named fault = (input : Input) × IsInputOf config named input × IsReadFault (IsOpenQuoteOf named input) fault

-- the fault is of their records
abbrev pub IsFaultOfRecords : NamedFiles → Fault → Type 0
IsFaultOfRecords named fault = IsReadFault (IsFaultOfFiles (Some named.accounts.items) (Some named.messages.items) (octets_read (tariff_in named))) fault

-- and strictly that the messages file ends within a quote
abbrev pub IsFaultOfOctets : Bool → Config → NamedFiles → Fault → Type 0
IsFaultOfOctets strict config named fault =
    IsFaultOfRecords named fault ⊎ ((strict ≡ true) × IsOpenQuote config named fault)

-- ---- of opened files

-- the files were read to their ends, and the input is what they say; strictly the messages file doesn't end within a quote
pub record IsReadWhole (strict : Bool) (config : Config) (accounts messages : Told) (tariff : Option Told) (input : Input) : Type 0 where
  pub named : NamedFiles
  pub are : AreOpened accounts messages tariff named
  pub read : IsInputOf config named input
  pub closed : strict ≡ true → ¬ EndsQuoted named.messages.items

-- the input of opened files, which are read to their ends first or not
abbrev pub IsReadFrom : (whole strict : Bool) → Config → Told → Told → Option Told → Input → Type 0
IsReadFrom true strict config accounts messages tariff input = IsReadWhole strict config accounts messages tariff input
IsReadFrom false strict config accounts messages tariff input = IsInputBy config accounts messages tariff input

-- why there is none
abbrev pub FailsReading : (whole strict : Bool) → Config → Told → Told → Option Told → Fault → Type 0
FailsReading true strict config accounts messages tariff fault =
    FailsReadingOpened tariff fault ⊎ ((named : NamedFiles) × AreOpened accounts messages tariff named × IsFaultOfOctets strict config named fault)
FailsReading false strict config accounts messages tariff fault = IsReadFault (IsFaultOfFiles accounts messages tariff) fault

-- the digests are those of the config's octets and of the octets of these files
abbrev pub AreDigestsOf : List ℕ → Told → Told → Option Told → Digests → Type 0
AreDigestsOf octets accounts messages tariff digests =
    (named : NamedFiles) × AreOpened accounts messages tariff named × (digests ≡ digests_of octets named.accounts.items named.messages.items (tariff_in named))

-- ---- of the files that a config names

-- the input is what the config and the files say that are found by its names
pub record IsRead (finds : List ℕ → Option Told → Type 0) (whole strict : Bool) (config : Config) (input : Input) : Type 0 where
  pub accounts : Told
  pub messages : Told
  pub tariff : Option Told
  pub found : AreFound finds config.files accounts messages tariff
  pub read : IsReadFrom whole strict config accounts messages tariff input

-- why there is none: a file can't be opened, or the fault is of those that were opened
abbrev pub IsUnread : (List ℕ → Option Told → Type 0) → (whole strict : Bool) → Config → Fault → Type 0
IsUnread finds whole strict config fault =
    FailsOpeningFiles finds config.files fault
    ⊎ ((accounts : Told) × (messages : Told) × (tariff : Option Told) × AreFound finds config.files accounts messages tariff × FailsReading whole strict config accounts messages tariff fault)
