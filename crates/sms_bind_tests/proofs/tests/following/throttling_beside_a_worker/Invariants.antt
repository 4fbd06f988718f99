use Rattle.std.proofs.Common.{None}
use Rattle.sms_bind_tests.proofs.tests.following.throttling_beside_a_worker.Given as goal

abbrev pub ghosts-beside_a_worker : goal.ghosts-beside_a_worker
ghosts-beside_a_worker g a = record { log = a.log; settings = None }
