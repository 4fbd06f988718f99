use Rattle.sms_book.proofs.LawProofs.{rule_is_orderly}
use Rattle.sms_book.proofs.laws.rule_is_orderly.Goals as goal

pub returns : goal.returns
returns c = rule_is_orderly
