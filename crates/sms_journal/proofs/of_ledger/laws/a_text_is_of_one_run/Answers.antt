use Rattle.sms_journal.proofs.HeadLaws.{one_run}
use Rattle.sms_journal.proofs.of_ledger.laws.a_text_is_of_one_run.Goals as goal

pub returns : goal.returns
returns c = one_run
