use Rattle.std.proofs.Common.{None}
use Rattle.sms_bind_tests.proofs.tests.keeping.deliver_sm_are_kept_and_acknowledged.Given as goal

abbrev pub ghosts-want : goal.ghosts-want
ghosts-want g a = record { log = a.log; settings = None }
