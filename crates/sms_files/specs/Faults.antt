-- What each source is called, and which faults are those of a device.
use Rattle.std.specs.Prelude.{◌≡◌, ◌⊎◌, ⊤, ℕ, List, codes}
use Rattle.sms_pdu.specs.Devices.{faults_of}
use Rattle.sms_pdu.specs.DeviceErrors.{errors_in}
use Rattle.sms_pdu.specs.declared.device_error.DeviceError.{DeviceError}
use Rattle.sms_pdu.specs.declared.tap.Tap.{Tap}
use Rattle.sms_files.specs.declared.fault.InputFault.{InputFault}
use Rattle.sms_files.specs.declared.fault.InputFault.TheVariants.{Unreadable, OutOfMemory}
use Rattle.sms_files.specs.declared.fault.Source.{Source}
use Rattle.sms_files.specs.declared.fault.Source.TheVariants.{Schedule, Messages, Accounts, Tariff}

abbrev pub source_name : Source → List ℕ
source_name Schedule = codes "schedule"
source_name Messages = codes "messages"
source_name Accounts = codes "accounts"
source_name Tariff = codes "tariff"

-- a source can't be read; a body has a `DeviceError` to tell only of a device that answered an error
abbrev pub IsUnreadable : Source → InputFault → Type 0
IsUnreadable source f = (error : DeviceError) × (f ≡ Unreadable source error)

-- the reader of a source failed, or memory was refused
abbrev pub IsDevice : Source → InputFault → Type 0
IsDevice source f = IsUnreadable source f ⊎ (f ≡ OutOfMemory tt)

-- a fault that tells what can't be read counts the errors of this device
abbrev pub CountsErrors : {T : Type 0} → Tap T → InputFault → Type 0
CountsErrors device (Unreadable source error) = errors_in error ≡ faults_of device
CountsErrors device _ = ⊤
