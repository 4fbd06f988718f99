use Rattle.sms_book_tests.proofs.tests.a_blank_comes_back.Given as goal

abbrev pub ghosts-opens : goal.ghosts-opens
ghosts-opens g a = record { book = a.blank.book }
