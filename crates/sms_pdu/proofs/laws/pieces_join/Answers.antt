use Rattle.sms_pdu.proofs.Divisions as divisions
use Rattle.sms_pdu.proofs.laws.pieces_join.Goals as goal

pub returns : goal.returns
returns c = divisions.pieces_join
