use Rattle.sms_journal.proofs.HeadLaws.{whole_or_cut}
use Rattle.sms_journal.proofs.of_ledger.laws.no_journal_is_a_truncated_head.Goals as goal

pub returns : goal.returns
returns c = whole_or_cut
