use Rattle.std.proofs.Common.{sym}
use Rattle.sms_journal.proofs.Over.{segment_over}
use Rattle.sms_journal.proofs.further.laws.segments_are_of_a_round.Goals as goal

pub returns : goal.returns
returns g c = λ es later message part e at count. segment_over es later message part e at (sym count)
