use Rattle.std.proofs.Common.{None}
use Rattle.sms_worker_tests.proofs.tests.heard.comes.Given as goal

abbrev pub ghosts-works-N-BookName : goal.ghosts-works-N-BookName
ghosts-works-N-BookName g a = record { book = a.blank.book }

abbrev pub ghosts-works-N-LogName : goal.ghosts-works-N-LogName
ghosts-works-N-LogName g a = record { log = a.wires; settings = None }
