use Rattle.std.proofs.Common.{None}
use Rattle.sms_bind_tests.proofs.tests.reader.streams_that_are_read.Given as goal

abbrev pub ghosts-want_stream : goal.ghosts-want_stream
ghosts-want_stream g a = record { log = a.log; settings = None }
