use Rattle.std.proofs.Common.{refl, inl}
use Rattle.sms_files.proofs.memory.reading.fault_of.Goals as goal

pub returns-in-Some-clause-reader : goal.returns-in-Some-clause-reader
returns-in-Some-clause-reader g c = λ io counted. (c.in-Some.failure, refl)

pub returns-in-Some-clause-device : goal.returns-in-Some-clause-device
returns-in-Some-clause-device g c = inl (c.in-Some.failure, refl)
