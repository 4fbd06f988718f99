-- What contracts see of a device's error.
use Rattle.std.specs.Prelude.{ℕ}
use Rattle.sms_pdu.specs.declared.device_error.DeviceError.{DeviceError}

-- how many errors the device had answered: at least one
abbrev pub errors_in : DeviceError → ℕ
errors_in error = error.errors
