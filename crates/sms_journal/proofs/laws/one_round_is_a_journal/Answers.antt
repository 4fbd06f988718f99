use Rattle.sms_journal.proofs.RoundLaws.{one_round_is_a_journal}
use Rattle.sms_journal.proofs.laws.one_round_is_a_journal.Goals as goal

pub returns : goal.returns
returns c = one_round_is_a_journal
