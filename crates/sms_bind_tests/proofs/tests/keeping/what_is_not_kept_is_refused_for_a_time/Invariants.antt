use Rattle.std.proofs.Common.{None}
use Rattle.sms_bind_tests.proofs.tests.keeping.what_is_not_kept_is_refused_for_a_time.Given as goal

abbrev pub ghosts-want : goal.ghosts-want
ghosts-want g a = record { log = a.log; settings = None }
