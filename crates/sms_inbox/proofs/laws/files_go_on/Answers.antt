use Rattle.sms_inbox.proofs.Spelling as spelling
use Rattle.sms_inbox.proofs.laws.files_go_on.Goals as goal

pub returns : goal.returns
returns c = spelling.files_go_on
