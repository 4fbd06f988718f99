use Rattle.std.proofs.Common.{None}
use Rattle.sms_bind_tests.proofs.tests.reader.answers_of_several_workers.Given as goal

abbrev pub ghosts-several_workers : goal.ghosts-several_workers
ghosts-several_workers g a = record { log = a.log; settings = None }
