use Rattle.sms_bind_tests.proofs.tests.memory.reader_in_memory.Goals as goal

pub wire-requires-clause-behind : goal.wire-requires-clause-behind
wire-requires-clause-behind g c = rw c.requires.1 tt
