use Rattle.sms_core.proofs.RowSteps.{rows_move}
use Rattle.sms_core.proofs.laws.rows_move_as_told.Goals as goal

pub returns : goal.returns
returns c = rows_move
