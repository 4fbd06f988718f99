use Rattle.sms_journal.proofs.Records.{line_once}
use Rattle.sms_journal.proofs.laws.a_line_is_of_one_note.Goals as goal

pub returns : goal.returns
returns c = line_once
