use Rattle.std.proofs.Common.{ap}
use Rattle.sms_journal.specs.declared.recovery.resuming.JournaledRun.{JournaledRun}
use Rattle.sms_send.proofs.jobs.ledger_resume.with_its_fields.Goals as goal

pub returns-in-Ok-clause-run : goal.returns-in-Ok-clause-run
returns-in-Ok-clause-run g c = ap (λ (r : JournaledRun). record c.args.read { run = r }) c.in-Ok.ensures.run

pub returns-in-Ok-clause-fields : goal.returns-in-Ok-clause-fields
returns-in-Ok-clause-fields g c = c.in-Ok.ensures.fields
