use Rattle.sms_core.proofs.Renaming.{names_keep_steps, leaving_out_keeps_steps}
use Rattle.sms_core.proofs.laws.readings_keep_steps.Goals as goal

pub returns-clause-named : goal.returns-clause-named
returns-clause-named c = names_keep_steps

pub returns-clause-without : goal.returns-clause-without
returns-clause-without c = leaving_out_keeps_steps
