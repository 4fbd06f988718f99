use Rattle.sms_files.proofs.Keys.{tells_first, tells_later, none_later}
use Rattle.sms_files.proofs.Runs.{told_so}
use Rattle.sms_files.proofs.config.reading.config_in.Goals as goal

pub returns-in_err-connection-clause-refused : goal.returns-in_err-connection-clause-refused
returns-in_err-connection-clause-refused c = told_so c.from_residual.result _ _ c.from_residual.ensures.1 (tells_first _ _ _ _ c.in_err-connection.ensures.refused)

pub returns-in_err-limits-clause-refused : goal.returns-in_err-limits-clause-refused
returns-in_err-limits-clause-refused c = told_so c.from_residual-in_err-limits.result _ _ c.from_residual-in_err-limits.ensures.1 (tells_later _ _ _ _ c.in_ok-connection.ensures.faultless (tells_first _ _ _ _ c.in_err-limits.ensures.refused))

pub returns-in_err-retry-clause-refused : goal.returns-in_err-retry-clause-refused
returns-in_err-retry-clause-refused c = told_so c.from_residual-in_err-retry.result _ _ c.from_residual-in_err-retry.ensures.1 (tells_later _ _ _ _ c.in_ok-connection.ensures.faultless (tells_later _ _ _ _ c.in_ok-limits.ensures.faultless (tells_first _ _ _ _ c.in_err-retry.ensures.refused)))

pub returns-in_err-flags-clause-refused : goal.returns-in_err-flags-clause-refused
returns-in_err-flags-clause-refused c = told_so c.from_residual-in_err-flags.result _ _ c.from_residual-in_err-flags.ensures.1 (tells_later _ _ _ _ c.in_ok-connection.ensures.faultless (tells_later _ _ _ _ c.in_ok-limits.ensures.faultless (tells_later _ _ _ _ c.in_ok-retry.ensures.faultless (tells_first _ _ _ _ c.in_err-flags.ensures.refused))))

pub returns-in_err-files-clause-refused : goal.returns-in_err-files-clause-refused
returns-in_err-files-clause-refused c = told_so c.from_residual-in_err-files.result _ _ c.from_residual-in_err-files.ensures.1 (tells_later _ _ _ _ c.in_ok-connection.ensures.faultless (tells_later _ _ _ _ c.in_ok-limits.ensures.faultless (tells_later _ _ _ _ c.in_ok-retry.ensures.faultless (tells_later _ _ _ _ c.in_ok-flags.ensures.faultless (tells_first _ _ _ _ c.in_err-files.ensures.refused)))))

pub returns-in_err-answers-clause-refused : goal.returns-in_err-answers-clause-refused
returns-in_err-answers-clause-refused c = told_so c.from_residual-in_err-answers.result _ _ c.from_residual-in_err-answers.ensures.1 (tells_later _ _ _ _ c.in_ok-connection.ensures.faultless (tells_later _ _ _ _ c.in_ok-limits.ensures.faultless (tells_later _ _ _ _ c.in_ok-retry.ensures.faultless (tells_later _ _ _ _ c.in_ok-flags.ensures.faultless (tells_later _ _ _ _ c.in_ok-files.ensures.faultless (tells_first _ _ _ _ c.in_err-answers.ensures.refused))))))

pub returns-in_err-check_keys-clause-refused : goal.returns-in_err-check_keys-clause-refused
returns-in_err-check_keys-clause-refused c = told_so c.from_residual-in_err-check_keys.result _ _ c.from_residual-in_err-check_keys.ensures.1 (tells_later _ _ _ _ c.in_ok-connection.ensures.faultless (tells_later _ _ _ _ c.in_ok-limits.ensures.faultless (tells_later _ _ _ _ c.in_ok-retry.ensures.faultless (tells_later _ _ _ _ c.in_ok-flags.ensures.faultless (tells_later _ _ _ _ c.in_ok-files.ensures.faultless (tells_later _ _ _ _ c.in_ok-answers.ensures.faultless c.in_err-check_keys.ensures.refused))))))

pub returns-clause-faultless : goal.returns-clause-faultless
returns-clause-faultless c =
    none_later _ _ c.in_ok-connection.ensures.faultless
    (none_later _ _ c.in_ok-limits.ensures.faultless
    (none_later _ _ c.in_ok-retry.ensures.faultless
    (none_later _ _ c.in_ok-flags.ensures.faultless
    (none_later _ _ c.in_ok-files.ensures.faultless
    (none_later _ _ c.in_ok-answers.ensures.faultless c.in_ok-check_keys.ensures.known)))))

pub returns-clause-says : goal.returns-clause-says
returns-clause-says c = record {
  connection = c.in_ok-connection.ensures.says;
  limits = c.in_ok-limits.ensures.says;
  retry = c.in_ok-retry.ensures.says;
  flags = c.in_ok-flags.ensures.says;
  files = c.in_ok-files.ensures.says;
  answers = c.in_ok-answers.ensures.says;
}
