use Rattle.sms_pdu.proofs.Divisions as divisions
use Rattle.sms_pdu.proofs.laws.one_division.Goals as goal

pub returns : goal.returns
returns c = divisions.one_division
