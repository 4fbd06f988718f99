use Rattle.sms_alphabet.proofs.Lawful.{comes_back}
use Rattle.sms_alphabet.proofs.laws.comes_back.Goals as goal

pub returns : goal.returns
returns c = comes_back
