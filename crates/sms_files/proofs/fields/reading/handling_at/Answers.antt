use Rattle.sms_files.proofs.Keys.{tells_first, tells_later, none_later, no_fault}
use Rattle.sms_files.proofs.Runs.{told_so}
use Rattle.sms_files.proofs.fields.reading.handling_at.Goals as goal

pub returns-in_err-protocol_id-clause-refused : goal.returns-in_err-protocol_id-clause-refused
returns-in_err-protocol_id-clause-refused c = told_so c.from_residual.result _ _ c.from_residual.ensures.1 (tells_first _ _ _ _ c.in_err-protocol_id.ensures.refused)

pub returns-in_err-priority-clause-refused : goal.returns-in_err-priority-clause-refused
returns-in_err-priority-clause-refused c = told_so c.from_residual-in_err-priority.result _ _ c.from_residual-in_err-priority.ensures.1 (tells_later _ _ _ _ (no_fault _ _ _ c.in_ok-protocol_id.ensures.number) (tells_first _ _ _ _ c.in_err-priority.ensures.refused))

pub returns-in_err-registered-clause-refused : goal.returns-in_err-registered-clause-refused
returns-in_err-registered-clause-refused c = told_so c.from_residual-in_err-registered.result _ _ c.from_residual-in_err-registered.ensures.1 (tells_later _ _ _ _ (no_fault _ _ _ c.in_ok-protocol_id.ensures.number) (tells_later _ _ _ _ (no_fault _ _ _ c.in_ok-priority.ensures.number) (tells_first _ _ _ _ c.in_err-registered.ensures.refused)))

pub returns-in_err-replace-clause-refused : goal.returns-in_err-replace-clause-refused
returns-in_err-replace-clause-refused c = told_so c.from_residual-in_err-replace.result _ _ c.from_residual-in_err-replace.ensures.1 (tells_later _ _ _ _ (no_fault _ _ _ c.in_ok-protocol_id.ensures.number) (tells_later _ _ _ _ (no_fault _ _ _ c.in_ok-priority.ensures.number) (tells_later _ _ _ _ (no_fault _ _ _ c.in_ok-registered.ensures.octet) c.in_err-replace.ensures.refused)))

pub returns-clause-faultless : goal.returns-clause-faultless
returns-clause-faultless c = none_later _ _ (no_fault _ _ _ c.in_ok-protocol_id.ensures.number) (none_later _ _ (no_fault _ _ _ c.in_ok-priority.ensures.number) (none_later _ _ (no_fault _ _ _ c.in_ok-registered.ensures.octet) (no_fault _ _ _ c.in_ok-replace.ensures.flag)))

pub returns-clause-says : goal.returns-clause-says
returns-clause-says c = record {
  protocol_id = c.in_ok-protocol_id.ensures.number;
  priority = c.in_ok-priority.ensures.number;
  registered = c.in_ok-registered.ensures.octet;
  replace = c.in_ok-replace.ensures.flag;
}
