use Rattle.sms_bind.proofs.LogMoves.{begins}
use Rattle.sms_bind.proofs.log.BlankLog.new.Goals as goal

pub of_words-requires : goal.of_words-requires
of_words-requires c = begins
