-- To which message centre a sending connects.
use Rattle.std.specs.Prelude.{map, string_bytes}
use Rattle.sms_devices.specs.Centres.{CentreAt}
use Rattle.sms_files.specs.declared.config.Config.{Config}
use Rattle.sms_send.specs.declared.sending.target.Target.{Target}
use Rattle.sms_send.specs.declared.sending.target.Target.TheVariants as target
use Rattle.sms_send.specs.declared.sending.target.TargetKind.{TargetKind}
use Rattle.sms_send.specs.declared.sending.target.TargetKind.TheVariants.{Loopback, Remote}

-- to one of the program's own with what its script says, or to the one at this host and port
abbrev pub centre_of : Target → CentreAt
centre_of (target.Loopback bind_status answers) = CentreAt.Own bind_status (map string_bytes answers.items)
centre_of (target.Remote host port) = CentreAt.Named (string_bytes host) port

-- as a config says
abbrev pub centre_in : TargetKind → Config → CentreAt
centre_in Loopback config = CentreAt.Own config.answers.bind_status (map string_bytes config.answers.texts.items)
centre_in Remote config = CentreAt.Named (string_bytes config.connection.host) config.connection.port
