use Rattle.sms_journal.proofs.RoundLaws.{one_round_has_its_ends}
use Rattle.sms_journal.proofs.laws.one_round_has_its_ends.Goals as goal

pub returns : goal.returns
returns c = one_round_has_its_ends
