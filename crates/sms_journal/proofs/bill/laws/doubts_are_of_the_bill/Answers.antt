use Rattle.sms_journal.proofs.Bills.{doubts, doubts_have_refs}
use Rattle.sms_journal.proofs.bill.laws.doubts_are_of_the_bill.Goals as goal

pub returns-clause-plain : goal.returns-clause-plain
returns-clause-plain c = doubts

pub returns-clause-refs : goal.returns-clause-refs
returns-clause-refs c = doubts_have_refs
