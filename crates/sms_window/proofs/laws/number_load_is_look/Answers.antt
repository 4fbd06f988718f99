use Rattle.sms_window.proofs.Ties.{number_load_is_look}
use Rattle.sms_window.proofs.laws.number_load_is_look.Goals as goal

pub returns : goal.returns
returns c = number_load_is_look
