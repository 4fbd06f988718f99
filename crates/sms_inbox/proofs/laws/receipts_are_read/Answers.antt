use Rattle.sms_inbox.proofs.Examples as examples
use Rattle.sms_inbox.proofs.laws.receipts_are_read.Goals as goal

pub returns-clause-read : goal.returns-clause-read
returns-clause-read c = examples.receipts_read

pub returns-clause-messages : goal.returns-clause-messages
returns-clause-messages c = examples.messages_say_nothing
