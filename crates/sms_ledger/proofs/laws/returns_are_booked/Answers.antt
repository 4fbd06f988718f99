use Rattle.sms_ledger.proofs.GivingBack as giving
use Rattle.sms_ledger.proofs.laws.returns_are_booked.Goals as goal

pub returns-clause-booked : goal.returns-clause-booked
returns-clause-booked c = giving.returns_booked

pub returns-clause-back : goal.returns-clause-back
returns-clause-back c = giving.returns_bring_back
