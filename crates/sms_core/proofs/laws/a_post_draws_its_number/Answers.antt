use Rattle.sms_core.proofs.Drawn.{post_draws, only_post_draws}
use Rattle.sms_core.proofs.laws.a_post_draws_its_number.Goals as goal

pub returns-clause-draws : goal.returns-clause-draws
returns-clause-draws c = post_draws

pub returns-clause-only : goal.returns-clause-only
returns-clause-only c = only_post_draws
