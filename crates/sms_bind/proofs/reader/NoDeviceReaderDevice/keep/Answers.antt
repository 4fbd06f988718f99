use Rattle.std.proofs.Common.{arith}
use Rattle.sms_bind.proofs.reader.NoDeviceReaderDevice.keep.Goals as goal

pub returns-clause-once : goal.returns-clause-once
returns-clause-once c = λ frames rest d. omega arith
