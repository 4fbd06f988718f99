use Rattle.std.proofs.Common.{refl}
use Rattle.sms_driver.proofs.Refusals.{some_counted, some_written}
use Rattle.sms_driver.proofs.binding.bind_with.Goals as goal

pub returns-in-Ok-clause-bound : goal.returns-in-Ok-clause-bound
returns-in-Ok-clause-bound g c = let (octets, spelled, appended) = c.in-Ok.ensures.written refl in record { octets = octets; spelled = spelled; appended = appended }

pub returns-in-Ok-clause-opened : goal.returns-in-Ok-clause-opened
returns-in-Ok-clause-opened g c =
    let (octets, read, bounds) = c.in-Ok.ensures.answer in
    record { octets = octets; read = read; bounds = bounds }

pub returns-in-Err-clause-read : goal.returns-in-Err-clause-read
returns-in-Err-clause-read g c is = some_counted _ _ c.requires.unused.0 (c.in-Err.ensures.read_fault is)

pub returns-in-Err-clause-write : goal.returns-in-Err-clause-write
returns-in-Err-clause-write g c is sound = some_written _ _ _ sound c.requires.unused.1 (c.in-Err.ensures.write_fault is)
