use Rattle.sms_book_tests.proofs.tests.calls_are_refused.Given as goal

abbrev pub ghosts-calls_refused : goal.ghosts-calls_refused
ghosts-calls_refused g a = record { book = a.blank.book }
