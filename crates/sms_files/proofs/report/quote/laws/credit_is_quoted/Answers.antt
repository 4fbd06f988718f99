use Rattle.sms_files.proofs.Credit.{credit_quoted}
use Rattle.sms_files.proofs.report.quote.laws.credit_is_quoted.Goals as goal

pub returns : goal.returns
returns c = credit_quoted
