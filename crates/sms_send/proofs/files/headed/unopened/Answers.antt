use Rattle.std.proofs.Common.{inr, refl}
use Rattle.sms_send.proofs.files.headed.unopened.Goals as goal

pub returns-in-Ok : goal.returns-in-Ok
returns-in-Ok g c = inr (c.in-Ok.name, c.in-Ok.ensures.ok, refl)
