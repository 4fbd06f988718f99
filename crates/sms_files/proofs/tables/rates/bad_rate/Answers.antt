use Rattle.std.proofs.Common.{refl}
use Rattle.sms_files.proofs.tables.rates.bad_rate.Goals as goal

pub returns : goal.returns
returns c = (_, refl, refl)
