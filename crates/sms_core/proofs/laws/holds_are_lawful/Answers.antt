use Rattle.sms_core.proofs.Keeping.{holds_are_lawful, claim_takes_free_slot, slot_stays_held}
use Rattle.sms_core.proofs.laws.holds_are_lawful.Goals as goal

pub returns-clause-lawful : goal.returns-clause-lawful
returns-clause-lawful c = holds_are_lawful

pub returns-clause-taken : goal.returns-clause-taken
returns-clause-taken c = claim_takes_free_slot

pub returns-clause-stays : goal.returns-clause-stays
returns-clause-stays c = slot_stays_held
