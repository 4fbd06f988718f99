use Rattle.sms_journal.proofs.AuditRuns.{audits_are_runs}
use Rattle.sms_journal.proofs.audit.laws.audits_are_runs.Goals as goal

pub returns : goal.returns
returns c = audits_are_runs
