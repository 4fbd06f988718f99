use Rattle.std.proofs.Common.{None}
use Rattle.sms_worker_tests.proofs.tests.threads.go.Given as goal

abbrev pub ghosts-work_together-N-BookName : goal.ghosts-work_together-N-BookName
ghosts-work_together-N-BookName g a = record { book = a.blank.book }

abbrev pub ghosts-work_together-N-LogName : goal.ghosts-work_together-N-LogName
ghosts-work_together-N-LogName g a = record { log = a.wires; settings = None }
