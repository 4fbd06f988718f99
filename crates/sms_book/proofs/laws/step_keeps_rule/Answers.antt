use Rattle.sms_book.proofs.LawProofs.{step_keeps_rule}
use Rattle.sms_book.proofs.laws.step_keeps_rule.Goals as goal

pub returns : goal.returns
returns c = step_keeps_rule
