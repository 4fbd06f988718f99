use Rattle.std.proofs.Common.{refl}
use Rattle.sms_driver.proofs.binding.fault_of.Goals as goal

pub returns-in-Some : goal.returns-in-Some
returns-in-Some g c = rw c.in-Read.is (c.in-Some.failure, refl)

pub returns-in-Some-of : goal.returns-in-Some-of
returns-in-Some-of g c = rw c.in-Write.is (c.in-Some-of.failure, refl)
