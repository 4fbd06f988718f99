use Rattle.sms_window.proofs.Ties.{split_is_move, join_is_move}
use Rattle.sms_window.proofs.laws.families_are_moves.Goals as goal

pub returns-clause-split : goal.returns-clause-split
returns-clause-split c = split_is_move

pub returns-clause-join : goal.returns-clause-join
returns-clause-join c = join_is_move
