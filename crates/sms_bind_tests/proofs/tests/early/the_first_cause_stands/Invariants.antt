use Rattle.std.proofs.Common.{None}
use Rattle.sms_bind_tests.proofs.tests.early.the_first_cause_stands.Given as goal

abbrev pub ghosts-first_cause : goal.ghosts-first_cause
ghosts-first_cause g a = record { log = a.log; settings = None }
