use Rattle.sms_pdu.proofs.Divisions as divisions
use Rattle.sms_pdu.proofs.laws.others_follow.Goals as goal

pub returns : goal.returns
returns c = divisions.others_follow
