use Rattle.std.proofs.Common.{◌∙◌, inr}
use Rattle.sms_send.proofs.sending.noted.unmade_for.Goals as goal

pub returns-in-Ok : goal.returns-in-Ok
returns-in-Ok c = inr (c.in-Ok.name, c.in-Ok.ensures.ok ∙ c.as_str.ensures.value, c.unmade_fault.ensures)
