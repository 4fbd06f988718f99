use Rattle.sms_journal.proofs.Agreeing.{none_overdrawn}
use Rattle.sms_journal.proofs.recovery.laws.no_account_is_overdrawn.Goals as goal

pub returns : goal.returns
returns c = none_overdrawn
