use Rattle.std.proofs.Common.{None}
use Rattle.sms_worker_tests.proofs.tests.ready.parts_back.Given as goal

abbrev pub ghosts-parts_of-N-BookName : goal.ghosts-parts_of-N-BookName
ghosts-parts_of-N-BookName a = record { book = a.blank.book }

abbrev pub ghosts-parts_of-N-LogName : goal.ghosts-parts_of-N-LogName
ghosts-parts_of-N-LogName a = record { log = a.wires; settings = None }
