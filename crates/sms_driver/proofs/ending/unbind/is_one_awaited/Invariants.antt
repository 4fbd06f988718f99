use Rattle.sms_driver.specs.Unbinds.{AreDone}
use Rattle.sms_driver.proofs.ending.unbind.is_one_awaited.Given as goal

abbrev pub invariant-loop-place : goal.invariant-loop-place
invariant-loop-place g l = AreDone l.place l.shared_binds l.driver_seats
