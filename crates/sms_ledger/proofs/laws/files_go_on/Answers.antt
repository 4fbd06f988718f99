use Rattle.sms_ledger.proofs.Following as following
use Rattle.sms_ledger.proofs.laws.files_go_on.Goals as goal

pub returns-clause-entries : goal.returns-clause-entries
returns-clause-entries c = following.files_go_on

pub returns-clause-entry : goal.returns-clause-entry
returns-clause-entry c = following.files_take_entries
