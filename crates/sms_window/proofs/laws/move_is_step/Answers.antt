use Rattle.sms_window.proofs.SeatSteps.{move_is_step}
use Rattle.sms_window.proofs.laws.move_is_step.Goals as goal

pub returns : goal.returns
returns c = move_is_step
