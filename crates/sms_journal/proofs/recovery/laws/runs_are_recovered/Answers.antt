use Rattle.sms_journal.proofs.Agreeing.{runs_are_recovered}
use Rattle.sms_journal.proofs.recovery.laws.runs_are_recovered.Goals as goal

pub returns : goal.returns
returns c = runs_are_recovered
