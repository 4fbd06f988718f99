use Rattle.sms_inbox.proofs.Escapes as escapes
use Rattle.sms_inbox.proofs.laws.octets_have_one_spelling.Goals as goal

pub returns-clause-read : goal.returns-clause-read
returns-clause-read c = escapes.octets_back

pub returns-clause-one : goal.returns-clause-one
returns-clause-one c = escapes.spellings_one
