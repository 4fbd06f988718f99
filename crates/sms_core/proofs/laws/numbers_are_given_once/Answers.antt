use Rattle.sms_core.proofs.Drawing.{numbers_given_once}
use Rattle.sms_core.proofs.laws.numbers_are_given_once.Goals as goal

pub returns : goal.returns
returns c = numbers_given_once
