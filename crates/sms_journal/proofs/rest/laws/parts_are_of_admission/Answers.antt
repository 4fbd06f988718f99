use Rattle.sms_journal.proofs.Reasons.{parts_are_of_admission}
use Rattle.sms_journal.proofs.rest.laws.parts_are_of_admission.Goals as goal

pub returns : goal.returns
returns c = parts_are_of_admission
