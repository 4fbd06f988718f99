use Rattle.toml.specs.View.{table_view}
use Rattle.sms_files.proofs.FieldKeys.{addressing_other, field_first, field_later, handling_other, tells_field, times_other, unknown_other}
use Rattle.sms_files.proofs.Keys.{none_later, no_fault}
use Rattle.sms_files.proofs.Runs.{told_so}
use Rattle.sms_files.proofs.fields.reading.fields_in.Goals as goal

pub returns-in_err-addressing-clause-refused : goal.returns-in_err-addressing-clause-refused
returns-in_err-addressing-clause-refused c = told_so c.from_residual.result _ _ c.from_residual.ensures.1 (field_first _ _ _ _ (tells_field _ _ _ (addressing_other (table_view c.args.table.now)) c.in_err-addressing.ensures.refused))

pub returns-in_err-handling-clause-refused : goal.returns-in_err-handling-clause-refused
returns-in_err-handling-clause-refused c = told_so c.from_residual-in_err-handling.result _ _ c.from_residual-in_err-handling.ensures.1 (field_later _ _ _ _ c.in_ok-addressing.ensures.faultless (field_first _ _ _ _ (tells_field _ _ _ (handling_other (table_view c.args.table.now)) c.in_err-handling.ensures.refused)))

pub returns-in_err-times-clause-refused : goal.returns-in_err-times-clause-refused
returns-in_err-times-clause-refused c = told_so c.from_residual-in_err-times.result _ _ c.from_residual-in_err-times.ensures.1 (field_later _ _ _ _ c.in_ok-addressing.ensures.faultless (field_later _ _ _ _ c.in_ok-handling.ensures.faultless (field_first _ _ _ _ (tells_field _ _ _ (times_other (table_view c.args.table.now)) c.in_err-times.ensures.refused))))

pub returns-in_err-params-clause-refused : goal.returns-in_err-params-clause-refused
returns-in_err-params-clause-refused c = told_so c.from_residual-in_err-params.result _ _ c.from_residual-in_err-params.ensures.1 (field_later _ _ _ _ c.in_ok-addressing.ensures.faultless (field_later _ _ _ _ c.in_ok-handling.ensures.faultless (field_later _ _ _ _ c.in_ok-times.ensures.faultless (field_first _ _ _ _ c.in_err-params.ensures.refused))))

pub returns-in_err-check_fields-clause-refused : goal.returns-in_err-check_fields-clause-refused
returns-in_err-check_fields-clause-refused c = told_so c.from_residual-in_err-check_fields.result _ _ c.from_residual-in_err-check_fields.ensures.1 (field_later _ _ _ _ c.in_ok-addressing.ensures.faultless (field_later _ _ _ _ c.in_ok-handling.ensures.faultless (field_later _ _ _ _ c.in_ok-times.ensures.faultless (field_later _ _ _ _ (no_fault _ _ _ c.in_ok-params.ensures.params) (tells_field _ _ _ (unknown_other (table_view c.args.table.now)) c.in_err-check_fields.ensures.refused)))))

pub returns-clause-faultless : goal.returns-clause-faultless
returns-clause-faultless c = none_later _ _ c.in_ok-addressing.ensures.faultless (none_later _ _ c.in_ok-handling.ensures.faultless (none_later _ _ c.in_ok-times.ensures.faultless (none_later _ _ (no_fault _ _ _ c.in_ok-params.ensures.params) c.in_ok-check_fields.ensures.known)))

pub returns-clause-says : goal.returns-clause-says
returns-clause-says c = record {
  service_type = c.in_ok-addressing.ensures.says.service_type;
  source_ton = c.in_ok-addressing.ensures.says.source_ton;
  source_npi = c.in_ok-addressing.ensures.says.source_npi;
  dest_ton = c.in_ok-addressing.ensures.says.dest_ton;
  dest_npi = c.in_ok-addressing.ensures.says.dest_npi;
  protocol_id = c.in_ok-handling.ensures.says.protocol_id;
  priority = c.in_ok-handling.ensures.says.priority;
  registered = c.in_ok-handling.ensures.says.registered;
  replace = c.in_ok-handling.ensures.says.replace;
  schedule = c.in_ok-times.ensures.says.schedule;
  text = c.in_ok-times.ensures.says.text;
  text_is = c.in_ok-times.ensures.says.text_is;
  seconds = c.in_ok-times.ensures.says.seconds;
  seconds_is = c.in_ok-times.ensures.says.seconds_is;
  validity = c.in_ok-times.ensures.says.validity;
  params = c.in_ok-params.ensures.params;
}
