use Rattle.sms_window.proofs.Runs.{drawn_once}
use Rattle.sms_window.proofs.laws.drawn_once.Goals as goal

pub returns : goal.returns
returns c = drawn_once
