use Rattle.sms_alphabet.proofs.Lawful.{one_text}
use Rattle.sms_alphabet.proofs.laws.one_text.Goals as goal

pub returns : goal.returns
returns c = one_text
