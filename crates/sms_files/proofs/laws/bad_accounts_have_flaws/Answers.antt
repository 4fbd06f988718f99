use Rattle.sms_files.proofs.AccountFlaws.{accounts_flawed}
use Rattle.sms_files.proofs.laws.bad_accounts_have_flaws.Goals as goal

pub returns : goal.returns
returns c = accounts_flawed
