use Rattle.sms_journal.proofs.EndRuns.{sendings_are_runs}
use Rattle.sms_journal.proofs.audit.laws.sendings_are_runs.Goals as goal

pub returns : goal.returns
returns g c = sendings_are_runs
