use Rattle.std.proofs.Common.{inl, inr}
use Rattle.sms_send.proofs.files.sending_input.read_noted.Goals as goal

pub returns-in-Ok-read_digested-clause-read : goal.returns-in-Ok-read_digested-clause-read
returns-in-Ok-read_digested-clause-read g c = record { named = c.in-Ok.named; are = c.in-Ok.ensures.read; read = c.in-Ok-read_digested.ensures.read; closed = c.in-Ok-read_digested.ensures.closed }

pub returns-in-Ok-read_digested-clause-digests : goal.returns-in-Ok-read_digested-clause-digests
returns-in-Ok-read_digested-clause-digests g c = (c.in-Ok.named, c.in-Ok.ensures.read, c.in-Ok-read_digested.ensures.digests)

pub returns-clause-refused : goal.returns-clause-refused
returns-clause-refused g c = inr (c.in-Ok.named, c.in-Ok.ensures.read, c.in-Err-read_digested.ensures.refused)

pub returns-in-Err-clause-refused : goal.returns-in-Err-clause-refused
returns-in-Err-clause-refused g c = inl c.in-Err.ensures.refused
