use Rattle.sms_worker_tests.proofs.tests.beside.line_with_fuse.Goals as goal

pub wire-requires-clause-behind : goal.wire-requires-clause-behind
wire-requires-clause-behind g c = rw c.requires.1 tt
