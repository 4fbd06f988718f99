-- A config that was read from the file of a name, and why there is none.
use Rattle.std.proofs.Common.{◌≡◌, inr, refl, sym, subst, ℕ, Bool, List, Option, String, Global}
use Rattle.std.specs.Prelude.{string_bytes}
use Rattle.sms_driver.specs.declared.start.StartPhase.{StartPhase}
use Rattle.sms_driver.specs.declared.start.StartPhase.TheVariants.{Idle}
use Rattle.sms_files.specs.ConfigFaults.{IsConfig, TellsConfig}
use Rattle.sms_files.specs.Inputs.{Told}
use Rattle.sms_files.specs.declared.config.Config.{Config}
use Rattle.sms_send.specs.ConfigFiles.{FailsReadingConfig, IsConfigFile, OfConfig}
use Rattle.sms_send.specs.Faults.{ComesAt, IsReadFault, output_failed}
use Rattle.sms_send.specs.Opened.{AreFound, OfFile}
use Rattle.sms_send.specs.Reading.{FailsReading, IsRead, IsReadFrom, IsUnread}
use Rattle.sms_send.specs.declared.faults.fault.Fault.{Fault}
use Rattle.sms_send.specs.declared.files.config_file.ConfigFile.{ConfigFile}
use Rattle.sms_files.specs.declared.input.Input.{Input}
use Rattle.sms_send.proofs.Sendings.{beside}

-- what holds of the config that was read holds of that of the file of the name
pub of_config : (finds : List ℕ → Option Told → Type 0) (name : List ℕ) (file : ConfigFile) (P : Config → Type 0) → IsConfigFile finds name file → P file.config → OfConfig finds name P
of_config finds name file P is holds =
    beside finds name file.octets.items file.octets.items (λ octets. (config : Config) × IsConfig octets config × P config) is.octets_are refl (file.config, is.says, holds)

-- octets that were read and are a config, and such that are none
pub config_file : (finds : List ℕ → Option Told → Type 0) (name octets : List ℕ) (file : ConfigFile) → OfFile finds name (λ bytes. file.octets.items ≡ bytes) → octets ≡ file.octets.items → IsConfig octets file.config → IsConfigFile finds name file
config_file finds name octets file are same says = record { octets_are = are; says = subst (λ (o : List ℕ). IsConfig o file.config) same says }

pub no_config : (finds : List ℕ → Option Told → Type 0) (name : String Global) (items octets : List ℕ) (fault : Fault) → OfFile finds (string_bytes name) (λ bytes. items ≡ bytes) → octets ≡ items → IsReadFault (TellsConfig octets) fault → FailsReadingConfig finds name fault
no_config finds name items octets fault are same fails =
    inr (inr (beside finds (string_bytes name) items octets (λ o. IsReadFault (TellsConfig o) fault) are same fails))

-- a fault that comes before a worker is started comes in that phase, and is none of an output
pub early_at : (b : StartPhase) (fault : Fault) → b ≡ Idle → ComesAt Idle fault → ComesAt b fault
early_at b fault yet early = subst (λ (s : StartPhase). ComesAt s fault) (sym yet) early

pub early_is_no_output : {A : Type 0} (fault : Fault) → ComesAt Idle fault → fault ≡ output_failed → A
early_is_no_output fault early is = let bad = subst (ComesAt Idle) is early in cc

-- a config that was read, and files that were opened by its names
pub record AreOpen (finds : List ℕ → Option Told → Type 0) (parsed config : Config) (accounts messages : Told) (tariff : Option Told) : Type 0 where
  pub config_is : config ≡ parsed
  pub found : AreFound finds parsed.files accounts messages tariff

-- what they say is what is found by the config, and so is why they say nothing
pub read_open : (finds : List ℕ → Option Told → Type 0) (whole strict : Bool) (parsed config : Config) (accounts messages : Told) (tariff : Option Told) (given : Input)
    → AreOpen finds parsed config accounts messages tariff → IsReadFrom whole strict config accounts messages tariff given → IsRead finds whole strict parsed given
read_open finds whole strict parsed config accounts messages tariff given opened read = record {
  accounts = accounts;
  messages = messages;
  tariff = tariff;
  found = opened.found;
  read = subst (λ (k : Config). IsReadFrom whole strict k accounts messages tariff given) opened.config_is read;
}

pub unread_open : (finds : List ℕ → Option Told → Type 0) (whole strict : Bool) (parsed config : Config) (accounts messages : Told) (tariff : Option Told) (fault : Fault)
    → AreOpen finds parsed config accounts messages tariff → FailsReading whole strict config accounts messages tariff fault → IsUnread finds whole strict parsed fault
unread_open finds whole strict parsed config accounts messages tariff fault opened fails =
    inr (accounts, messages, tariff, opened.found, subst (λ (k : Config). FailsReading whole strict k accounts messages tariff fault) opened.config_is fails)
