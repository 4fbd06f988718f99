use Rattle.sms_files.proofs.Quoted.{refusals_quoted}
use Rattle.sms_files.proofs.report.quote.laws.refusals_are_quoted.Goals as goal

pub returns : goal.returns
returns c = refusals_quoted
