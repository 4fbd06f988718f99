use Rattle.std.proofs.Common.{None}
use Rattle.sms_bind_tests.proofs.tests.keeping.lines_that_idle_are_asked.Given as goal

abbrev pub ghosts-want_watched : goal.ghosts-want_watched
ghosts-want_watched g a = record { log = a.log; settings = None }
