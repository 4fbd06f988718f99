use Rattle.std.proofs.Common.{None}
use Rattle.sms_bind_tests.proofs.tests.faults.a_nack_that_is_cut_at_each_octet.Given as goal

abbrev pub ghosts-want_nack : goal.ghosts-want_nack
ghosts-want_nack g a = record { log = a.log; settings = None }
