use Rattle.sms_inbox.proofs.Spelling as spelling
use Rattle.sms_inbox.proofs.laws.faults_spell_none.Goals as goal

pub returns : goal.returns
returns c = spelling.faults_spell_none
