use Rattle.sms_book.proofs.TariffLaws.{cost_ignores_order}
use Rattle.sms_book.proofs.laws.cost_ignores_order.Goals as goal

pub returns : goal.returns
returns c = cost_ignores_order
