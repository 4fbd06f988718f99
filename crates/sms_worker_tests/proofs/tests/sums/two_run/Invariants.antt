use Rattle.std.proofs.Common.{None}
use Rattle.sms_worker_tests.proofs.tests.sums.two_run.Given as goal

abbrev pub ghosts-two_work-N-BookName : goal.ghosts-two_work-N-BookName
ghosts-two_work-N-BookName g a = record { book = a.blank.book }

abbrev pub ghosts-two_work-N-LogName : goal.ghosts-two_work-N-LogName
ghosts-two_work-N-LogName g a = record { log = a.wires; settings = None }
