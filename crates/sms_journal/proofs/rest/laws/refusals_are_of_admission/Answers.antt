use Rattle.sms_journal.proofs.Reasons.{refusals_are_of_admission}
use Rattle.sms_journal.proofs.rest.laws.refusals_are_of_admission.Goals as goal

pub returns : goal.returns
returns c = refusals_are_of_admission
