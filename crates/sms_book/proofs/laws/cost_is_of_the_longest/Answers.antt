use Rattle.sms_book.proofs.TariffLaws.{cost_is_of_the_longest}
use Rattle.sms_book.proofs.laws.cost_is_of_the_longest.Goals as goal

pub returns : goal.returns
returns c = cost_is_of_the_longest
