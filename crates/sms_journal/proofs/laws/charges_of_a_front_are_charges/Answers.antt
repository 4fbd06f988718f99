use Rattle.sms_journal.proofs.Journals.{charges_stay_charges}
use Rattle.sms_journal.proofs.laws.charges_of_a_front_are_charges.Goals as goal

pub returns : goal.returns
returns c = charges_stay_charges
