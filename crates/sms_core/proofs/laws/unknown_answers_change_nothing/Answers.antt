use Rattle.sms_core.proofs.Strays.{unknown_is_ignored}
use Rattle.sms_core.proofs.laws.unknown_answers_change_nothing.Goals as goal

pub returns : goal.returns
returns c = unknown_is_ignored
