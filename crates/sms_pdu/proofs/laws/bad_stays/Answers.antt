use Rattle.sms_pdu.proofs.Divisions as divisions
use Rattle.sms_pdu.proofs.laws.bad_stays.Goals as goal

pub returns : goal.returns
returns c = divisions.bad_stays
