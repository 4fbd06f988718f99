use Rattle.sms_book.proofs.StepTotals.{step_moves_book_totals}
use Rattle.sms_book.proofs.laws.step_moves_book_totals.Goals as goal

pub returns : goal.returns
returns c = step_moves_book_totals
