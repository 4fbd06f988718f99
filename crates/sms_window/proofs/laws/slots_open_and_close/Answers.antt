use Rattle.sms_window.proofs.OpenSlots.{none_more_law, one_more_law, one_less_law}
use Rattle.sms_window.proofs.laws.slots_open_and_close.Goals as goal

pub returns-clause-none : goal.returns-clause-none
returns-clause-none c = none_more_law

pub returns-clause-more : goal.returns-clause-more
returns-clause-more c = one_more_law

pub returns-clause-less : goal.returns-clause-less
returns-clause-less c = one_less_law
