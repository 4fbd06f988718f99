use Rattle.sms_book_tests.proofs.tests.returned_credits_are_bounded.Given as goal

abbrev pub ghosts-returns : goal.ghosts-returns
ghosts-returns g a = record { book = a.blank.book }
