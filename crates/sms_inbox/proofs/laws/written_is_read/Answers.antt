use Rattle.sms_inbox.proofs.Spelling as spelling
use Rattle.sms_inbox.proofs.laws.written_is_read.Goals as goal

pub returns-clause-read : goal.returns-clause-read
returns-clause-read c = spelling.written_read

pub returns-clause-once : goal.returns-clause-once
returns-clause-once c = spelling.texts_spell_once
