use Rattle.sms_pdu.proofs.Divisions as divisions
use Rattle.sms_pdu.proofs.laws.later_adds.Goals as goal

pub returns : goal.returns
returns c = divisions.later_adds
