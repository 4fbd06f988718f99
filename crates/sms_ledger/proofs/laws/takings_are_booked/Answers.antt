use Rattle.sms_ledger.proofs.TakingAll as taking
use Rattle.sms_ledger.proofs.laws.takings_are_booked.Goals as goal

pub returns-clause-booked : goal.returns-clause-booked
returns-clause-booked c = taking.takings_booked

pub returns-clause-all : goal.returns-clause-all
returns-clause-all c = taking.takings_take_all
