use Rattle.sms_send.proofs.Paying.{payments_stand}
use Rattle.sms_send.proofs.laws.payments_stand.Goals as goal

pub returns : goal.returns
returns c = payments_stand c.files_go_on.ensures.entry
