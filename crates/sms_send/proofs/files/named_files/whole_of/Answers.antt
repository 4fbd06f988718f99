use Rattle.std.proofs.Common.{refl, inr}
use Rattle.sms_send.proofs.files.named_files.whole_of.Goals as goal

pub returns-in-Some-clause-refused : goal.returns-in-Some-clause-refused
returns-in-Some-clause-refused g c = inr (c.in-Some.error, refl)
