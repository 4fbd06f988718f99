use Rattle.std.proofs.Common.{None}
use Rattle.sms_bind_tests.proofs.tests.memory.memory_of_a_reader.Given as goal

abbrev pub ghosts-reader_in_memory : goal.ghosts-reader_in_memory
ghosts-reader_in_memory g a = record { log = a.log; settings = None }
