use Rattle.sms_book.proofs.LawProofs.{opening_meets_rule}
use Rattle.sms_book.proofs.laws.opening_meets_rule.Goals as goal

pub returns : goal.returns
returns c = opening_meets_rule
