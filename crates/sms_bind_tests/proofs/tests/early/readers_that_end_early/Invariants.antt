use Rattle.std.proofs.Common.{None}
use Rattle.sms_bind_tests.proofs.tests.early.readers_that_end_early.Given as goal

abbrev pub ghosts-want_early : goal.ghosts-want_early
ghosts-want_early g a = record { log = a.log; settings = None }
