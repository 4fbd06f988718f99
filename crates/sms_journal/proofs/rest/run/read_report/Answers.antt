use Rattle.std.proofs.Common.{inr}
use Rattle.sms_journal.proofs.rest.run.read_report.Goals as goal

pub returns-in-Err-report_of-clause-refused : goal.returns-in-Err-report_of-clause-refused
returns-in-Err-report_of-clause-refused c = inr (c.in-Ok.input, c.in-Ok.ensures.read, c.in-Err-report_of.ensures.refused)
