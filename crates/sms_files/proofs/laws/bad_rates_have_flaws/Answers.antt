use Rattle.sms_files.proofs.RateFlaws.{rates_flawed}
use Rattle.sms_files.proofs.laws.bad_rates_have_flaws.Goals as goal

pub returns : goal.returns
returns c = rates_flawed
