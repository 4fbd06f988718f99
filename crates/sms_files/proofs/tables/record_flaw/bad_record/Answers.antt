use Rattle.std.proofs.Common.{refl}
use Rattle.sms_files.proofs.tables.record_flaw.bad_record.Goals as goal

pub returns : goal.returns
returns c = (_, refl, refl)
