use Rattle.std.proofs.Common.{refl}
use Rattle.sms_files.proofs.tables.quoting.quoted_record.Goals as goal

pub returns : goal.returns
returns c = (_, refl, refl)
