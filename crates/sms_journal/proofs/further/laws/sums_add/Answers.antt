use Rattle.sms_journal.proofs.Over.{of_all, of_left, Pair}
use Rattle.sms_journal.proofs.OverSums.{sums_add}
use Rattle.sms_journal.proofs.further.laws.sums_add.Goals as goal

pub returns : goal.returns
returns g c = λ f i ms es later are. sums_add f i Pair ms es later (of_all ms es later are) (of_left ms es later are)
