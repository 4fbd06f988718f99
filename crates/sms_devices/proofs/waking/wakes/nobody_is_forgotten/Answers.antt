use Rattle.sms_devices.proofs.Woken.{all_kept, each_woken, none_else}
use Rattle.sms_devices.proofs.waking.wakes.nobody_is_forgotten.Goals as goal

pub returns-clause-woken : goal.returns-clause-woken
returns-clause-woken c = each_woken

pub returns-clause-kept : goal.returns-clause-kept
returns-clause-kept c = all_kept

pub returns-clause-none_else : goal.returns-clause-none_else
returns-clause-none_else c = none_else
