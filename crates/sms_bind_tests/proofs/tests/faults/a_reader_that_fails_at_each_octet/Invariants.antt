use Rattle.std.proofs.Common.{None}
use Rattle.sms_bind_tests.proofs.tests.faults.a_reader_that_fails_at_each_octet.Given as goal

abbrev pub ghosts-want_end : goal.ghosts-want_end
ghosts-want_end g a = record { log = a.log; settings = None }
