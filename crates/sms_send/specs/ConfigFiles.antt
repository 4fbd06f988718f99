-- A config that is read from the file of a name, and why there is none.
use Rattle.std.specs.Prelude.{◌≡◌, ◌⊎◌, ℕ, List, Option, String, string_bytes}
use Rattle.std.specs.declared.alloc.Global.{Global}
use Rattle.sms_files.specs.ConfigFaults.{IsConfig, TellsConfig}
use Rattle.sms_files.specs.Inputs.{Told}
use Rattle.sms_files.specs.declared.config.Config.{Config}
use Rattle.sms_send.specs.Faults.{IsReadFault}
use Rattle.sms_send.specs.Opened.{FailsReadingFile, OfFile}
use Rattle.sms_send.specs.declared.faults.fault.Fault.{Fault}
use Rattle.sms_send.specs.declared.faults.fault.Fault.TheVariants.{OutOfMemory}
use Rattle.sms_send.specs.declared.files.config_file.ConfigFile.{ConfigFile}

-- it holds of the config that the octets of the file of a name are
abbrev pub OfConfig : (List ℕ → Option Told → Type 0) → List ℕ → (Config → Type 0) → Type 0
OfConfig finds name P = OfFile finds name (λ octets. (config : Config) × IsConfig octets config × P config)

-- a config and its octets are those of the file of a name
pub record IsConfigFile (finds : List ℕ → Option Told → Type 0) (name : List ℕ) (file : ConfigFile) : Type 0 where
  pub octets_are : OfFile finds name (λ bytes. file.octets.items ≡ bytes)
  pub says : IsConfig file.octets.items file.config

-- memory ran out, the file can't be opened or read, or its octets are no config
abbrev pub FailsReadingConfig : (List ℕ → Option Told → Type 0) → String Global → Fault → Type 0
FailsReadingConfig finds name fault =
    (fault ≡ OutOfMemory) ⊎ (FailsReadingFile finds name fault ⊎ OfFile finds (string_bytes name) (λ octets. IsReadFault (TellsConfig octets) fault))
