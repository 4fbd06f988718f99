use Rattle.sms_book.proofs.OpeningShares.{opening_shares_are_blank}
use Rattle.sms_book.proofs.laws.opening_shares_are_blank.Goals as goal

pub returns : goal.returns
returns c = opening_shares_are_blank
