use Rattle.sms_core.proofs.Finals.{final_stays}
use Rattle.sms_core.proofs.laws.final_is_final.Goals as goal

pub returns : goal.returns
returns c = final_stays
