use Rattle.std.proofs.Common.{None}
use Rattle.sms_worker_tests.proofs.tests.told.run_watched.Given as goal

abbrev pub ghosts-works_watched-N-BookName : goal.ghosts-works_watched-N-BookName
ghosts-works_watched-N-BookName g a = record { book = a.blank.book }

abbrev pub ghosts-works_watched-N-LogName : goal.ghosts-works_watched-N-LogName
ghosts-works_watched-N-LogName g a = record { log = a.wires; settings = None }
