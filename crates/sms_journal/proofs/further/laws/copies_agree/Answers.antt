use Rattle.sms_journal.proofs.OverSums.{copies_agree}
use Rattle.sms_journal.proofs.further.laws.copies_agree.Goals as goal

pub returns : goal.returns
returns g c = λ f i ms copies es same. copies_agree f i ms copies es same
