use Rattle.sms_journal.proofs.LineEnds.{lines_are_of_attempts}
use Rattle.sms_journal.proofs.rest.laws.lines_are_of_attempts.Goals as goal

pub returns : goal.returns
returns c = lines_are_of_attempts
