use Rattle.sms_bind_tests.proofs.tests.reader.line_of.Goals as goal

pub wire-requires-clause-behind : goal.wire-requires-clause-behind
wire-requires-clause-behind g c = rw c.requires.name.1 tt
