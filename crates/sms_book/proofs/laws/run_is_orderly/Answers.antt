use Rattle.sms_book.proofs.LawProofs.{run_is_orderly}
use Rattle.sms_book.proofs.laws.run_is_orderly.Goals as goal

pub returns : goal.returns
returns c = run_is_orderly
