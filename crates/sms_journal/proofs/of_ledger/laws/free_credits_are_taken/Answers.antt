use Rattle.sms_journal.proofs.TakingLaws.{free_is_taken}
use Rattle.sms_journal.proofs.of_ledger.laws.free_credits_are_taken.Goals as goal

pub returns : goal.returns
returns c = free_is_taken
