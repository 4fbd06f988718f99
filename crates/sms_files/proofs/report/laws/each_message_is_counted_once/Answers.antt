use Rattle.sms_files.proofs.Counting.{counted_once, no_more_together}
use Rattle.sms_files.proofs.report.laws.each_message_is_counted_once.Goals as goal

pub returns-clause-each : goal.returns-clause-each
returns-clause-each c = counted_once

pub returns-clause-together : goal.returns-clause-together
returns-clause-together c = no_more_together
