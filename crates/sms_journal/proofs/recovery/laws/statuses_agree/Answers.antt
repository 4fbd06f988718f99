use Rattle.sms_journal.proofs.Agreeing.{statuses_agree}
use Rattle.sms_journal.proofs.recovery.laws.statuses_agree.Goals as goal

pub returns : goal.returns
returns c = statuses_agree
