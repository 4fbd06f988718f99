use Rattle.sms_journal.proofs.RoundLaws.{none_is_begun_twice}
use Rattle.sms_journal.proofs.laws.none_is_begun_twice.Goals as goal

pub returns : goal.returns
returns c = none_is_begun_twice
