use Rattle.std.proofs.Common.{refl, subst, Option, Some}
use Rattle.sms_files.specs.Inputs.{Told, TellsInput}
use Rattle.sms_journal.proofs.Recoveries.{tariff_read}
use Rattle.sms_journal.proofs.recovery.files.input_of.Goals as goal

pub returns-in-Err-clause-refused : goal.returns-in-Err-clause-refused
returns-in-Err-clause-refused c = (
  c.in-Err.fault,
  subst (λ (t : Option Told). TellsInput c.args.config.now (Some c.args.accounts.now) (Some c.args.messages.now) t c.in-Err.fault) (tariff_read c.args.tariff) c.in-Err.ensures.refused,
  refl,
)
