use Rattle.std.proofs.Common.{arith}
use Rattle.sms_bind_tests.proofs.tests.keeping.DeskReaderDevice.keep.Goals as goal

pub returns-in_default-clause-once : goal.returns-in_default-clause-once
returns-in_default-clause-once c = λ frames rest d. omega arith

pub returns-in-Ok-clause-once : goal.returns-in-Ok-clause-once
returns-in-Ok-clause-once c = λ frames rest d. omega arith

pub returns-in-Err-clause-once : goal.returns-in-Err-clause-once
returns-in-Err-clause-once c = λ frames rest d. omega arith
