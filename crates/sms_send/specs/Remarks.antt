-- What standard error has of a sending beside its fault.
use Rattle.std.specs.Prelude.{Bool, ◌&&◌, ◌||◌, not}
use Rattle.sms_devices.specs.Telling.{telling_of}
use Rattle.sms_send.specs.declared.sending.remarks.Remarks.{Remarks}

-- nothing where that is asked for; at length where details are wanted of each sending, or of this one
abbrev pub remarks_by : Bool → Bool → Bool → Bool → Bool → Remarks
remarks_by quiet verbose terminal details trial = record { telling = telling_of quiet terminal; at_length = not quiet && (details || verbose); trial = trial }
