use Rattle.std.proofs.Common.{refl, rules}
use Rattle.sms_send.proofs.Runs.{have_parts}
use Rattle.sms_send.proofs.files.headed.parts_of.Goals as goal

pub returns : goal.returns
returns c = have_parts _ _ _ _ _ c.requires refl c.in_ok-accounts.ensures c.in_ok-journal.ensures (search rules)
