use Rattle.sms_files.proofs.Refusals.{same_refusals}
use Rattle.sms_files.proofs.report.quote.laws.refusals_are_the_workers.Goals as goal

pub returns : goal.returns
returns c = same_refusals
