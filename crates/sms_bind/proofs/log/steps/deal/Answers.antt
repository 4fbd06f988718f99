use Rattle.sms_bind.proofs.LogMoves.{deals}
use Rattle.sms_bind.proofs.log.steps.deal.Goals as goal

pub split_off-requires-clause-allowed : goal.split_off-requires-clause-allowed
split_off-requires-clause-allowed c = let (v, is, more) = c.requires.parts in (v, is, deals _ v more)
