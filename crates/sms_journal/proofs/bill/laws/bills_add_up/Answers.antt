use Rattle.sms_journal.proofs.Bills.{bills_add_up}
use Rattle.sms_journal.proofs.bill.laws.bills_add_up.Goals as goal

pub returns : goal.returns
returns c = bills_add_up
