use Rattle.std.proofs.Common.{inr, refl}
use Rattle.sms_send.proofs.jobs.recover_job.of_other_file.Goals as goal

pub returns-in-Ok : goal.returns-in-Ok
returns-in-Ok c = inr (c.in-Ok.name, refl)
