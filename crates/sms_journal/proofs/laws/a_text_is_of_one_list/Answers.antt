use Rattle.sms_journal.proofs.Apart.{notes_once}
use Rattle.sms_journal.proofs.laws.a_text_is_of_one_list.Goals as goal

pub returns : goal.returns
returns c = notes_once
