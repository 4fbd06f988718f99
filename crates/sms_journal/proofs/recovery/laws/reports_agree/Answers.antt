use Rattle.sms_journal.proofs.Agreeing.{reports_agree}
use Rattle.sms_journal.proofs.recovery.laws.reports_agree.Goals as goal

pub returns : goal.returns
returns c = reports_agree
