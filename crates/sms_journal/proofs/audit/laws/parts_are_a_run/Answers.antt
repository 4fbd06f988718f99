use Rattle.sms_journal.proofs.ScheduleRuns.{parts_are_a_run}
use Rattle.sms_journal.proofs.audit.laws.parts_are_a_run.Goals as goal

pub returns : goal.returns
returns c = parts_are_a_run
