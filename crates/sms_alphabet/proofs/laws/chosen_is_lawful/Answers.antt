use Rattle.sms_alphabet.proofs.Lawful.{chosen_spells}
use Rattle.sms_alphabet.proofs.laws.chosen_is_lawful.Goals as goal

pub returns : goal.returns
returns c = λ text is. (chosen_spells text, record { text = text; is_text = is; spells = chosen_spells text })
