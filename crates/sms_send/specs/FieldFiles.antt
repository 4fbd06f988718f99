-- The fields of a sending, read from the file of a name, and why there are none.
use Rattle.std.specs.Prelude.{◌≡◌, ◌⊎◌, ℕ, List, Option, Some, None, String, string_bytes}
use Rattle.std.specs.declared.alloc.Global.{Global}
use Rattle.sms_files.specs.Inputs.{Told}
use Rattle.sms_files.specs.SubmitFields.{IsFields, TellsFields}
use Rattle.sms_files.specs.declared.fault.InputFault.{InputFault}
use Rattle.sms_message.specs.Fields.{HasNoFields}
use Rattle.sms_message.specs.declared.fields.Fields.{Fields}
use Rattle.sms_send.specs.Faults.{fault_of_fields}
use Rattle.sms_send.specs.Opened.{FailsReadingFile, OfFile}
use Rattle.sms_send.specs.declared.faults.fault.Fault.{Fault}
use Rattle.sms_send.specs.declared.faults.fault.Fault.TheVariants.{OutOfMemory}

-- they are what the file of the name says; without a name none are asked for
abbrev pub AreFieldsAt : (List ℕ → Option Told → Type 0) → Option (List ℕ) → Fields → Type 0
AreFieldsAt finds None fields = HasNoFields fields
AreFieldsAt finds (Some name) fields = OfFile finds name (λ octets. IsFields octets fields)

-- the fault is of the octets of a fields file
abbrev pub IsFieldsFault : List ℕ → Fault → Type 0
IsFieldsFault octets fault = (f : InputFault) × TellsFields octets f × (fault ≡ fault_of_fields f)

-- memory ran out, the file can't be opened or read, or its octets are no fields
abbrev pub FailsFields : (List ℕ → Option Told → Type 0) → Option (List ℕ) → Fault → Type 0
FailsFields finds None fault = ⊥
FailsFields finds (Some name) fault =
    (fault ≡ OutOfMemory)
    ⊎ (((text : String Global) × (string_bytes text ≡ name) × FailsReadingFile finds text fault) ⊎ OfFile finds name (λ octets. IsFieldsFault octets fault))
