use Rattle.std.proofs.Common.{None}
use Rattle.sms_bind_tests.proofs.tests.reader.answers_that_overrun.Given as goal

abbrev pub ghosts-want_counts : goal.ghosts-want_counts
ghosts-want_counts g a = record { log = a.log; settings = None }
