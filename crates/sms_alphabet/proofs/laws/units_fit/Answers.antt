use Rattle.sms_alphabet.proofs.Lawful.{units_fit}
use Rattle.sms_alphabet.proofs.laws.units_fit.Goals as goal

pub returns : goal.returns
returns c = units_fit
