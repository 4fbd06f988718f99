use Rattle.sms_files.proofs.Keys.{tells_first, tells_later, none_later, no_fault}
use Rattle.sms_files.proofs.Runs.{told_so}
use Rattle.sms_files.proofs.config.reading.connection_at.Goals as goal

pub returns-in_err-host-clause-refused : goal.returns-in_err-host-clause-refused
returns-in_err-host-clause-refused c = told_so c.from_residual.result _ _ c.from_residual.ensures.1 (tells_first _ _ _ _ c.in_err-host.ensures.refused)

pub returns-in_err-port-clause-refused : goal.returns-in_err-port-clause-refused
returns-in_err-port-clause-refused c = told_so c.from_residual-in_err-port.result _ _ c.from_residual-in_err-port.ensures.1 (tells_later _ _ _ _ (no_fault _ _ _ c.in_ok-host.ensures.text) (tells_first _ _ _ _ c.in_err-port.ensures.refused))

pub returns-in_err-system_id-clause-refused : goal.returns-in_err-system_id-clause-refused
returns-in_err-system_id-clause-refused c = told_so c.from_residual-in_err-system_id.result _ _ c.from_residual-in_err-system_id.ensures.1 (tells_later _ _ _ _ (no_fault _ _ _ c.in_ok-host.ensures.text) (tells_later _ _ _ _ (no_fault _ _ _ c.in_ok-port.ensures.number) (tells_first _ _ _ _ c.in_err-system_id.ensures.refused)))

pub returns-in_err-password-clause-refused : goal.returns-in_err-password-clause-refused
returns-in_err-password-clause-refused c = told_so c.from_residual-in_err-password.result _ _ c.from_residual-in_err-password.ensures.1 (tells_later _ _ _ _ (no_fault _ _ _ c.in_ok-host.ensures.text) (tells_later _ _ _ _ (no_fault _ _ _ c.in_ok-port.ensures.number) (tells_later _ _ _ _ (no_fault _ _ _ c.in_ok-system_id.ensures.octets) (tells_first _ _ _ _ c.in_err-password.ensures.refused))))

pub returns-in_err-system_type-clause-refused : goal.returns-in_err-system_type-clause-refused
returns-in_err-system_type-clause-refused c = told_so c.from_residual-in_err-system_type.result _ _ c.from_residual-in_err-system_type.ensures.1 (tells_later _ _ _ _ (no_fault _ _ _ c.in_ok-host.ensures.text) (tells_later _ _ _ _ (no_fault _ _ _ c.in_ok-port.ensures.number) (tells_later _ _ _ _ (no_fault _ _ _ c.in_ok-system_id.ensures.octets) (tells_later _ _ _ _ (no_fault _ _ _ c.in_ok-password.ensures.octets) (tells_first _ _ _ _ c.in_err-system_type.ensures.refused)))))

pub returns-in_err-mode-clause-refused : goal.returns-in_err-mode-clause-refused
returns-in_err-mode-clause-refused c = told_so c.from_residual-in_err-mode.result _ _ c.from_residual-in_err-mode.ensures.1 (tells_later _ _ _ _ (no_fault _ _ _ c.in_ok-host.ensures.text) (tells_later _ _ _ _ (no_fault _ _ _ c.in_ok-port.ensures.number) (tells_later _ _ _ _ (no_fault _ _ _ c.in_ok-system_id.ensures.octets) (tells_later _ _ _ _ (no_fault _ _ _ c.in_ok-password.ensures.octets) (tells_later _ _ _ _ (no_fault _ _ _ c.in_ok-system_type.ensures.octets) c.in_err-mode.ensures.refused)))))

pub returns-clause-faultless : goal.returns-clause-faultless
returns-clause-faultless c = none_later _ _ (no_fault _ _ _ c.in_ok-host.ensures.text) (none_later _ _ (no_fault _ _ _ c.in_ok-port.ensures.number) (none_later _ _ (no_fault _ _ _ c.in_ok-system_id.ensures.octets) (none_later _ _ (no_fault _ _ _ c.in_ok-password.ensures.octets) (none_later _ _ (no_fault _ _ _ c.in_ok-system_type.ensures.octets) (no_fault _ _ _ c.in_ok-mode.ensures.mode)))))
