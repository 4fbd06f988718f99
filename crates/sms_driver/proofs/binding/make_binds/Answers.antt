use Rattle.std.proofs.Common.{length, inr}
use Rattle.sms_driver.proofs.Refusals.{if_given, if_all, if_told, on_ok}
use Rattle.sms_driver.proofs.Starts.{tells_bind}
use Rattle.sms_driver.proofs.binding.make_binds.Goals as goal

pub returns-clause-driver_seats : goal.returns-clause-driver_seats
returns-clause-driver_seats g c = if_given _ _ _ c.roll_back_if_failed.ensures.given c.bind_each-binds.ensures.driver_seats

pub returns-clause-opened : goal.returns-clause-opened
returns-clause-opened g c = if_given _ _ _ c.roll_back_if_failed.ensures.given c.bind_each-binds.ensures.opened

pub returns-clause-set : goal.returns-clause-set
returns-clause-set g c = if_given _ _ _ c.roll_back_if_failed.ensures.given c.bind_each-binds.ensures.set

pub returns-clause-seated : goal.returns-clause-seated
returns-clause-seated g c = if_given _ _ _ c.roll_back_if_failed.ensures.given c.bind_each-binds.ensures.seated

pub returns-clause-length : goal.returns-clause-length
returns-clause-length g c = if_all _ _ _ _ c.roll_back_if_failed.ensures.given c.roll_back_if_failed.ensures.all c.bind_each-binds.ensures.length

pub returns-clause-refused : goal.returns-clause-refused
returns-clause-refused g c =
    if_told _ _ _ _ c.roll_back_if_failed.ensures.fault c.bind_each-binds.ensures.refused (λ fault h. inr (length c.bind_each-binds.result.0.shared_binds.items, h.0, h.1))

pub returns-clause-phase : goal.returns-clause-phase
returns-clause-phase g c =
    if_told _ _ _ _ c.roll_back_if_failed.ensures.fault c.bind_each-binds.ensures.refused (λ fault h. tells_bind (g.D.Dial.refuses c.args.dial.now) (g.D.Dial.told c.args.dial.now) _ _ fault h.1)

pub returns-clause-log : goal.returns-clause-log
returns-clause-log g c = (on_ok _ _ _ c.roll_back_if_failed.ensures.all c.bind_each-binds.ensures.log.0, if_given _ _ _ c.roll_back_if_failed.ensures.given c.bind_each-binds.ensures.log.1)
