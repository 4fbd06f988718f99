use Rattle.sms_core.proofs.RequestSteps.{requests_move}
use Rattle.sms_core.proofs.laws.requests_move_as_told.Goals as goal

pub returns : goal.returns
returns c = requests_move
