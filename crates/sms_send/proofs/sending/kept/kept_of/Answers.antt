use Rattle.sms_send.proofs.sending.kept.kept_of.Goals as goal

pub returns-in-Ok-clause-printed : goal.returns-in-Ok-clause-printed
returns-in-Ok-clause-printed g c = c.is_printing.ensures c.if-not-is_printing.false
