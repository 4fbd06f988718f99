use Rattle.sms_pdu.proofs.Spellings as spellings
use Rattle.sms_pdu.proofs.laws.no_prefix.Goals as goal

pub returns : goal.returns
returns c = spellings.no_prefix
