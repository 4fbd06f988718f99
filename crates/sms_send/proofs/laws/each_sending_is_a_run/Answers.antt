use Rattle.sms_send.proofs.ModelRuns.{each_sending_is_a_run}
use Rattle.sms_send.proofs.laws.each_sending_is_a_run.Goals as goal

pub returns : goal.returns
returns c = each_sending_is_a_run
