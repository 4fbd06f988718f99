use Rattle.sms_journal.proofs.HeadLaws.{truncated_is_cut}
use Rattle.sms_journal.proofs.of_ledger.laws.truncated_heads_are_cut.Goals as goal

pub returns : goal.returns
returns c = truncated_is_cut
