use Rattle.sms_pdu.proofs.Spellings as spellings
use Rattle.sms_pdu.proofs.laws.one_spelling.Goals as goal

pub returns : goal.returns
returns c = spellings.one_spelling
