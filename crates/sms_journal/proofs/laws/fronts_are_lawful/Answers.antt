use Rattle.sms_journal.proofs.Journals.{front_lawful}
use Rattle.sms_journal.proofs.laws.fronts_are_lawful.Goals as goal

pub returns : goal.returns
returns c = front_lawful
