-- What a run of the sender reads: the config, the accounts, the messages and maybe a tariff, and the first fault of these.
use Rattle.std.specs.Prelude.{◌≡◌, ◌⊎◌, ℕ, List, [], Option, Some, None, IfSome}
use Rattle.sms_book.specs.Openings.{names_of}
use Rattle.sms_book.specs.Tariffs.{Price}
use Rattle.sms_files.specs.Accounts.{AreAccounts, accounts_fault}
use Rattle.sms_files.specs.ConfigFaults.{IsConfig, TellsConfig}
use Rattle.sms_files.specs.Fields.{records_of}
use Rattle.sms_files.specs.Messages.{messages_fault}
use Rattle.sms_files.specs.Rates.{IsTariffFile, TellsTariff}
use Rattle.sms_files.specs.Records.{TellsRecords}
use Rattle.sms_files.specs.MessageRows.{AreMessages}
use Rattle.sms_files.specs.declared.config.Config.{Config}
use Rattle.sms_files.specs.declared.fault.InputFault.{InputFault}
use Rattle.sms_files.specs.declared.fault.InputFault.TheVariants.{OutOfMemory}
use Rattle.sms_files.specs.declared.fault.Source.TheVariants.{Accounts, Messages}
use Rattle.sms_files.specs.declared.input.Input.{Input}

-- the bytes that a reader gives, where they are known
abbrev pub Told : Type 0
Told = Option (List ℕ)

-- the tariff is that of the file; without a file there are no rates
abbrev pub IsTariffOf : Option Told → List Price → Type 0
IsTariffOf None tariff = tariff ≡ []
IsTariffOf (Some told) tariff = IfSome told (λ bytes. IsTariffFile (records_of bytes) tariff)

-- the input is what these octets of the config and of the files say
pub record IsInput (config : List ℕ) (accounts messages : Told) (tariff : Option Told) (input : Input) : Type 0 where
  pub config_says : IsConfig config input.config
  pub openings : IfSome accounts (λ bytes. AreAccounts (records_of bytes) input.openings.items)
  pub messages_are : IfSome messages (λ bytes. AreMessages (names_of input.openings.items) (records_of bytes) input.messages.items)
  pub tariff_is : IsTariffOf tariff input.tariff

-- the input has these accounts, messages and tariff
pub record HasFiles (accounts messages : Told) (tariff : Option Told) (input : Input) : Type 0 where
  pub openings : IfSome accounts (λ bytes. AreAccounts (records_of bytes) input.openings.items)
  pub messages_are : IfSome messages (λ bytes. AreMessages (names_of input.openings.items) (records_of bytes) input.messages.items)
  pub tariff_is : IsTariffOf tariff input.tariff

-- the config, the accounts and the messages have no fault
abbrev pub HasConfig : List ℕ → Type 0
HasConfig octets = (c : Config) × IsConfig octets c

abbrev pub HasAccounts : Told → Type 0
HasAccounts told = IfSome told (λ bytes. accounts_fault (records_of bytes) ≡ None)

abbrev pub HasMessages : Told → Type 0
HasMessages told = IfSome told (λ bytes. messages_fault (records_of bytes) ≡ None)

-- what a fault says of each of the files
abbrev pub TellsAccounts : Told → InputFault → Type 0
TellsAccounts told fault = IfSome told (λ bytes. TellsRecords Accounts (accounts_fault (records_of bytes)) fault)

abbrev pub TellsMessages : Told → InputFault → Type 0
TellsMessages told fault = IfSome told (λ bytes. TellsRecords Messages (messages_fault (records_of bytes)) fault)

abbrev pub TellsTariffOf : Option Told → InputFault → Type 0
TellsTariffOf None fault = fault ≡ OutOfMemory tt
TellsTariffOf (Some told) fault = IfSome told (λ bytes. TellsTariff (records_of bytes) fault)

-- what a fault says of the files: it is of the first in this order that has one
abbrev pub IsFaultOfFiles : Told → Told → Option Told → InputFault → Type 0
IsFaultOfFiles accounts messages tariff fault =
    TellsAccounts accounts fault
    ⊎ (HasAccounts accounts × TellsMessages messages fault)
    ⊎ (HasAccounts accounts × HasMessages messages × TellsTariffOf tariff fault)

-- what a fault says of them all: it is of the config, or the config has none and it is of the files
abbrev pub TellsInput : List ℕ → Told → Told → Option Told → InputFault → Type 0
TellsInput config accounts messages tariff fault = TellsConfig config fault ⊎ (HasConfig config × IsFaultOfFiles accounts messages tariff fault)
