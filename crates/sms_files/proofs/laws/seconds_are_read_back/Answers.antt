use Rattle.sms_files.proofs.TimeLaws.{seconds_read}
use Rattle.sms_files.proofs.laws.seconds_are_read_back.Goals as goal

pub returns : goal.returns
returns c = seconds_read
