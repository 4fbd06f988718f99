use Rattle.sms_journal.proofs.Over.{left_after, of_all, of_left, Pair}
use Rattle.sms_journal.proofs.further.laws.rounds_leave_alike.Goals as goal

pub returns : goal.returns
returns g c = λ ms es later are. left_after Pair ms es later (of_all ms es later are) (of_left ms es later are)
