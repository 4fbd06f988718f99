use Rattle.sms_window.proofs.LawProofs.{gives_greatest}
use Rattle.sms_window.proofs.laws.gives_greatest.Goals as goal

pub returns : goal.returns
returns c = gives_greatest
