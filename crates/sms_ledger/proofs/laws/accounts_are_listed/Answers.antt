use Rattle.sms_ledger.proofs.Counts as counts
use Rattle.sms_ledger.proofs.laws.accounts_are_listed.Goals as goal

pub returns-clause-listed : goal.returns-clause-listed
returns-clause-listed c = counts.accounts_listed

pub returns-clause-bounded : goal.returns-clause-bounded
returns-clause-bounded c = counts.accounts_bounded
