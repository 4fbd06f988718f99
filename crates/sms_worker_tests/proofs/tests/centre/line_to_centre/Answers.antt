use Rattle.sms_worker_tests.proofs.tests.centre.line_to_centre.Goals as goal

pub wire-requires-clause-behind : goal.wire-requires-clause-behind
wire-requires-clause-behind g c = rw c.requires.1 tt
