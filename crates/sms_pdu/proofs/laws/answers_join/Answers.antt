use Rattle.sms_pdu.proofs.Divisions as divisions
use Rattle.sms_pdu.proofs.laws.answers_join.Goals as goal

pub returns : goal.returns
returns c = record { join = divisions.answers_join; one = divisions.one_list_of_answers; grow = divisions.answers_grow }
