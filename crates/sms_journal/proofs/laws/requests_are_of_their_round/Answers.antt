use Rattle.sms_journal.proofs.RoundLaws.{requests_are_of_their_round}
use Rattle.sms_journal.proofs.laws.requests_are_of_their_round.Goals as goal

pub returns : goal.returns
returns c = requests_are_of_their_round
