use Rattle.sms_book_tests.proofs.tests.threads.one_worker_gets_the_last_credit.Given as goal

abbrev pub ghosts-last : goal.ghosts-last
ghosts-last g a = record { book = a.blank.book }
