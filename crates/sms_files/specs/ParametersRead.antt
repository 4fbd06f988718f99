-- What texts are read as where parameters are wanted.
use Rattle.std.specs.Prelude.{◌≡◌, ℕ, List, Some, string_bytes, codes}
use Rattle.sms_files.specs.Parameters.{IsFirstBad, parameters_of}
use Rattle.sms_files.specs.declared.config.config_value.ConfigValue.{ConfigValue}
use Rattle.sms_files.specs.declared.fault.InputFault.{InputFault}
use Rattle.sms_files.specs.declared.fault.InputFault.TheVariants.{BadKey, OutOfMemory}
use Rattle.sms_files.specs.declared.fields.parameters.Read.{Read}
use Rattle.sms_files.specs.declared.fields.parameters.Read.TheVariants.{All, Bad}

-- the parameters that they spell, or the place of the first that spells none
abbrev pub IsReadOf : List (List ℕ) → Read → Type 0
IsReadOf texts (All params) = parameters_of texts ≡ Some params
IsReadOf texts (Bad place) = IsFirstBad texts place

-- the fault has the key of the parameters, and this value
abbrev pub IsBadParameters : ConfigValue → InputFault → Type 0
IsBadParameters there (BadKey key at) = (string_bytes key ≡ codes "parameters") × (at ≡ there)
IsBadParameters there (OutOfMemory refused) = Unit {0}
IsBadParameters there _ = ⊥
