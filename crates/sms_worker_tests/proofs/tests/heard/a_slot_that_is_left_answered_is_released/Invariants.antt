use Rattle.std.proofs.Common.{None}
use Rattle.sms_worker_tests.proofs.tests.heard.a_slot_that_is_left_answered_is_released.Given as goal

abbrev pub ghosts-two_calls-N-BookName : goal.ghosts-two_calls-N-BookName
ghosts-two_calls-N-BookName g a = record { book = a.blank.book }

abbrev pub ghosts-two_calls-N-LogName : goal.ghosts-two_calls-N-LogName
ghosts-two_calls-N-LogName g a = record { log = a.wires; settings = None }
