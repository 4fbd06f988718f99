use Rattle.sms_devices.proofs.Buckets.{no_more}
use Rattle.sms_devices.proofs.gate.bucket.no_more_go_in_any_second.Goals as goal

pub returns : goal.returns
returns c = no_more
