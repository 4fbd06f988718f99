use Rattle.sms_window.proofs.Ties.{load_is_look}
use Rattle.sms_window.proofs.laws.load_is_look.Goals as goal

pub returns : goal.returns
returns c = load_is_look
