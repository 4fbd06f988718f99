use Rattle.sms_journal.proofs.ReportRuns.{reports_are_runs}
use Rattle.sms_journal.proofs.audit.laws.reports_are_runs.Goals as goal

pub returns : goal.returns
returns c = reports_are_runs
