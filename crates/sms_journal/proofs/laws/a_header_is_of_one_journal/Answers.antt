use Rattle.sms_journal.proofs.Heads.{one_header}
use Rattle.sms_journal.proofs.laws.a_header_is_of_one_journal.Goals as goal

pub returns : goal.returns
returns c = one_header
