use Rattle.sms_core.proofs.Determined.{one_slot_waits, step_is_determined}
use Rattle.sms_core.proofs.laws.a_step_is_determined.Goals as goal

pub returns-clause-waits : goal.returns-clause-waits
returns-clause-waits c = one_slot_waits

pub returns-clause-one : goal.returns-clause-one
returns-clause-one c = step_is_determined
