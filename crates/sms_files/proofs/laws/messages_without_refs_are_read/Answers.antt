use Rattle.sms_files.proofs.RefTexts.{plain-good, plain-read}
use Rattle.sms_files.proofs.laws.messages_without_refs_are_read.Goals as goal

pub returns-clause-read : goal.returns-clause-read
returns-clause-read c = plain-read

pub returns-clause-good : goal.returns-clause-good
returns-clause-good c = plain-good
