use Rattle.sms_files.proofs.Quoted.{sent_quoted}
use Rattle.sms_files.proofs.report.quote.laws.sent_as_quoted.Goals as goal

pub returns : goal.returns
returns c = sent_quoted
