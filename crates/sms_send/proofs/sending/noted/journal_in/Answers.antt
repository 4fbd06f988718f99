use Rattle.std.proofs.Common.{◌∙◌, ap}
use Rattle.sms_send.specs.Stopped.{sign_of}
use Rattle.sms_send.proofs.sending.noted.journal_in.Goals as goal

pub returns-in-Ok-clause-sign : goal.returns-in-Ok-clause-sign
returns-in-Ok-clause-sign g c = (c.in-Ok.sign, c.with_stop_sign.ensures.sign, c.in-Ok.ensures ∙ ap sign_of c.as_str.ensures.value)
