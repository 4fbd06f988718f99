use Rattle.std.proofs.Common.{None}
use Rattle.sms_bind_tests.proofs.tests.reader.what_came_with_the_answer.Given as goal

abbrev pub ghosts-want_rest : goal.ghosts-want_rest
ghosts-want_rest g a = record { log = a.log; settings = None }
