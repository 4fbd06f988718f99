use Rattle.sms_window.proofs.Runs.{move_keeps_rule}
use Rattle.sms_window.proofs.laws.move_keeps_rule.Goals as goal

pub returns : goal.returns
returns c = move_keeps_rule
