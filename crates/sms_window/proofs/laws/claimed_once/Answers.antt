use Rattle.sms_window.proofs.Runs.{claimed_once}
use Rattle.sms_window.proofs.laws.claimed_once.Goals as goal

pub returns : goal.returns
returns c = claimed_once
