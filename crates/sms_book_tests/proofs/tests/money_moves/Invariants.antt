use Rattle.sms_book_tests.proofs.tests.money_moves.Given as goal

abbrev pub ghosts-moves : goal.ghosts-moves
ghosts-moves g a = record { book = a.blank.book }
