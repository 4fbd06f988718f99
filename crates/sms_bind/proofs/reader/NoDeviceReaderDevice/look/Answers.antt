use Rattle.std.proofs.Common.{refl}
use Rattle.sms_bind.proofs.reader.NoDeviceReaderDevice.look.Goals as goal

pub returns : goal.returns
returns c = (18446744073709551615, refl)
