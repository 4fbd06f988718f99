use Rattle.sms_journal.proofs.PlainTexts.{faults_placed, lines_read, open_faults}
use Rattle.sms_journal.proofs.plain.laws.messages_without_references_are_read.Goals as goal

pub returns-clause-read : goal.returns-clause-read
returns-clause-read c = lines_read

pub returns-clause-placed : goal.returns-clause-placed
returns-clause-placed c = faults_placed

pub returns-clause-ended : goal.returns-clause-ended
returns-clause-ended c = open_faults
