use Rattle.sms_journal.proofs.Once.{ends_are_unique}
use Rattle.sms_journal.proofs.laws.ends_are_unique.Goals as goal

pub returns : goal.returns
returns c = ends_are_unique
