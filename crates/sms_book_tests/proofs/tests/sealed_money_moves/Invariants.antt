use Rattle.sms_book.specs.Name.{as_sealed}
use Rattle.sms_book_tests.proofs.tests.sealed_money_moves.Given as goal

abbrev pub ghosts-moves_sealed : goal.ghosts-moves_sealed
ghosts-moves_sealed g a = record { book = as_sealed a.blank.book }
