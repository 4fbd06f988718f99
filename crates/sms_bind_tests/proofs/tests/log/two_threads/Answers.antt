use Rattle.sms_bind_tests.proofs.tests.log.two_threads.Goals as goal

pub wire-requires-clause-behind : goal.wire-requires-clause-behind
wire-requires-clause-behind g c = rw c.requires.1 tt
