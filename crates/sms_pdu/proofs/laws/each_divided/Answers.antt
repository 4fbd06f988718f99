use Rattle.sms_pdu.proofs.Divisions as divisions
use Rattle.sms_pdu.proofs.laws.each_divided.Goals as goal

pub returns : goal.returns
returns c = divisions.each_divided
