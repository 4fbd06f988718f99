use Rattle.sms_window.proofs.Runs.{dropped_stays}
use Rattle.sms_window.proofs.laws.dropped_stays.Goals as goal

pub returns : goal.returns
returns c = dropped_stays
