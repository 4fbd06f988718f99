use Rattle.sms_files.proofs.FirstFlaws.{schedule_flawed}
use Rattle.sms_files.proofs.laws.bad_schedules_have_flaws.Goals as goal

pub returns : goal.returns
returns c = schedule_flawed
