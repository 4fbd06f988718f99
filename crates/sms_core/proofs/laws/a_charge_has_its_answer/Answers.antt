use Rattle.sms_core.proofs.Charging.{charge_has_answer, answer_is_of_one}
use Rattle.sms_core.proofs.laws.a_charge_has_its_answer.Goals as goal

pub returns-clause-answered : goal.returns-clause-answered
returns-clause-answered c = charge_has_answer

pub returns-clause-apart : goal.returns-clause-apart
returns-clause-apart c = answer_is_of_one
