use Rattle.std.proofs.Common.{◌∙◌}
use Rattle.sms_journal.proofs.Over.{length_over}
use Rattle.sms_journal.proofs.further.laws.each_message_has_an_end.Goals as goal

pub returns : goal.returns
returns g c = λ ms es later are. length_over es later ∙ are.each
