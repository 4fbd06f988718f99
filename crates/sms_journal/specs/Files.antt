-- The files of a run, as octets, and what a fault of them, or of the output, says.
use Rattle.std.specs.Prelude.{◌≡◌, ◌⊎◌, ℕ, List, Option, Some, option_map}
use Rattle.sms_files.specs.Inputs.{IsInput, Told, TellsInput}
use Rattle.sms_files.specs.declared.fault.InputFault.{InputFault}
use Rattle.sms_files.specs.declared.input.Input.{Input as TheInput}
use Rattle.sms_journal.specs.declared.recovery.fault.RecoveryFault.{RecoveryFault}
use Rattle.sms_journal.specs.Faults.{out_of_memory, output_failed}
use Rattle.sms_journal.specs.declared.recovery.fault.RecoveryFault.TheVariants.{Input}
use Rattle.sms_files.specs.Output.{WritesFront}

-- octets that there may be, where a reader's are known
abbrev pub octets_read : Option (List ℕ) → Option Told
octets_read file = option_map (λ octets. Some octets) file

-- the input is what these octets say
abbrev pub Reads : List ℕ → List ℕ → List ℕ → Option (List ℕ) → TheInput → Type 0
Reads config accounts messages tariff input = IsInput config (Some accounts) (Some messages) (octets_read tariff) input

-- one of them has a fault
abbrev pub IsFaultOfFiles : List ℕ → List ℕ → List ℕ → Option (List ℕ) → RecoveryFault → Type 0
IsFaultOfFiles config accounts messages tariff fault = (f : InputFault) × TellsInput config (Some accounts) (Some messages) (octets_read tariff) f × (fault ≡ Input f)

-- the output failed after part of the text, or memory was refused
abbrev pub IsCut : List ℕ → Option (List ℕ) → Option (List ℕ) → RecoveryFault → Type 0
IsCut text old new fault = (fault ≡ out_of_memory) ⊎ ((fault ≡ output_failed) × WritesFront old new text)
