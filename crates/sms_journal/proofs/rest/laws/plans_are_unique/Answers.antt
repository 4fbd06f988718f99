use Rattle.sms_journal.proofs.Reasons.{plans_are_unique}
use Rattle.sms_journal.proofs.rest.laws.plans_are_unique.Goals as goal

pub returns : goal.returns
returns c = plans_are_unique
