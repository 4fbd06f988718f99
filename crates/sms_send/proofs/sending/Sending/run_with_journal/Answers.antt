use Rattle.std.proofs.Common.{refl}
use Rattle.sms_send.proofs.sending.Sending.run_with_journal.Goals as goal

pub returns-clause-kept : goal.returns-clause-kept
returns-clause-kept g c = c.run-sent.ensures.kept refl
