use Rattle.sms_window.proofs.Names.{keeper_has_all, gives_in_turn, gives_all}
use Rattle.sms_window.proofs.laws.keeper_gives_in_turn.Goals as goal

pub returns-clause-all : goal.returns-clause-all
returns-clause-all c = keeper_has_all

pub returns-clause-next : goal.returns-clause-next
returns-clause-next c = gives_in_turn

pub returns-clause-after : goal.returns-clause-after
returns-clause-after c = gives_all
