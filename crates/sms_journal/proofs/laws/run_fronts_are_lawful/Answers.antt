use Rattle.sms_journal.proofs.RoundLaws.{run_fronts_are_lawful}
use Rattle.sms_journal.proofs.laws.run_fronts_are_lawful.Goals as goal

pub returns : goal.returns
returns c = run_fronts_are_lawful
