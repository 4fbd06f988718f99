use Rattle.sms_journal.proofs.Charges.{charges_are_answered}
use Rattle.sms_journal.proofs.laws.charges_are_answered.Goals as goal

pub returns : goal.returns
returns c = charges_are_answered
