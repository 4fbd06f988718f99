use Rattle.sms_pdu.proofs.Spellings as spellings
use Rattle.sms_pdu.proofs.laws.spelling_is_frame.Goals as goal

pub returns : goal.returns
returns c = spellings.spelling_is_frame
