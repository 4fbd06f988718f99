use Rattle.sms_window.proofs.Ties.{exchange_is_draw}
use Rattle.sms_window.proofs.laws.exchange_is_draw.Goals as goal

pub returns : goal.returns
returns c = exchange_is_draw
