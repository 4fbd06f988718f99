use Rattle.std.proofs.Common.{refl}
use Rattle.sms_bind.proofs.reader.NoDeviceReaderDevice.heard.Goals as goal

pub returns-clause-watch : goal.returns-clause-watch
returns-clause-watch c = (0, refl)
