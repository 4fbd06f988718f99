use Rattle.std.proofs.Common.{None}
use Rattle.sms_bind_tests.proofs.tests.log.requests_of_two_threads.Given as goal

abbrev pub ghosts-two_threads : goal.ghosts-two_threads
ghosts-two_threads g a = record { log = a.log; settings = None }
