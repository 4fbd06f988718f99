use Rattle.std.specs.Prelude.{map}
use Rattle.sms_book.specs.Portions.{of_worker, of_row}
use Rattle.sms_book.proofs.book.Book.row_of.Given as goal

abbrev pub ghosts-check_out : goal.ghosts-check_out
ghosts-check_out g a = record { portions = map of_worker a.new.now; totals = map of_row a.rows.now }
