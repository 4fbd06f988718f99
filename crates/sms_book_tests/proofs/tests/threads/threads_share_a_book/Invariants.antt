use Rattle.sms_book_tests.proofs.tests.threads.threads_share_a_book.Given as goal

abbrev pub ghosts-many : goal.ghosts-many
ghosts-many g a = record { book = a.blank.book }
