use Rattle.sms_ledger.proofs.Counts as counts
use Rattle.sms_ledger.proofs.laws.payments_are_booked_once.Goals as goal

pub returns : goal.returns
returns c = counts.payments_once
