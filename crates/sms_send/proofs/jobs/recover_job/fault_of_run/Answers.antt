use Rattle.sms_send.proofs.Recovering.{other_told}
use Rattle.sms_send.proofs.jobs.recover_job.fault_of_run.Goals as goal

pub returns-in-Some : goal.returns-in-Some
returns-in-Some c =
    other_told c.args.name.now c.args.names.now c.in-OtherFiles.what c.in-Some.name.now c.args.fault _ c.in-Some.ensures c.in-OtherFiles.is c.of_other_file.ensures
