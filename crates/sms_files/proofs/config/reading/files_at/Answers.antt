use Rattle.sms_files.proofs.Keys.{tells_first, tells_later, none_later, no_fault}
use Rattle.sms_files.proofs.Runs.{told_so}
use Rattle.sms_files.proofs.config.reading.files_at.Goals as goal

pub returns-in_err-accounts-clause-refused : goal.returns-in_err-accounts-clause-refused
returns-in_err-accounts-clause-refused c = told_so c.from_residual.result _ _ c.from_residual.ensures.1 (tells_first _ _ _ _ c.in_err-accounts.ensures.refused)

pub returns-in_err-messages-clause-refused : goal.returns-in_err-messages-clause-refused
returns-in_err-messages-clause-refused c = told_so c.from_residual-in_err-messages.result _ _ c.from_residual-in_err-messages.ensures.1 (tells_later _ _ _ _ (no_fault _ _ _ c.in_ok-accounts.ensures.text) (tells_first _ _ _ _ c.in_err-messages.ensures.refused))

pub returns-in_err-tariff-clause-refused : goal.returns-in_err-tariff-clause-refused
returns-in_err-tariff-clause-refused c = told_so c.from_residual-in_err-tariff.result _ _ c.from_residual-in_err-tariff.ensures.1 (tells_later _ _ _ _ (no_fault _ _ _ c.in_ok-accounts.ensures.text) (tells_later _ _ _ _ (no_fault _ _ _ c.in_ok-messages.ensures.text) c.in_err-tariff.ensures.refused))

pub returns-clause-faultless : goal.returns-clause-faultless
returns-clause-faultless c = none_later _ _ (no_fault _ _ _ c.in_ok-accounts.ensures.text) (none_later _ _ (no_fault _ _ _ c.in_ok-messages.ensures.text) (no_fault _ _ _ c.in_ok-tariff.ensures.text))

pub returns-clause-says : goal.returns-clause-says
returns-clause-says c = record { accounts = c.in_ok-accounts.ensures.text; messages = c.in_ok-messages.ensures.text; tariff = c.in_ok-tariff.ensures.text }
