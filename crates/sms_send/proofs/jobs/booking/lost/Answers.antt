use Rattle.std.proofs.Common.{inr}
use Rattle.sms_send.proofs.jobs.booking.lost.Goals as goal

pub returns-in-Ok : goal.returns-in-Ok
returns-in-Ok g c = inr (c.in-Ok.name, c.in-Ok.ensures.ok, c.fault_of_opening.ensures)
