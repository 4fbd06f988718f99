use Rattle.sms_files.proofs.FieldKeys.{toml_tells}
use Rattle.sms_files.proofs.Runs.{told_so}
use Rattle.sms_files.proofs.fields.reading.fields_of.Goals as goal

pub returns-in_err-table-clause-refused : goal.returns-in_err-table-clause-refused
returns-in_err-table-clause-refused c = told_so c.from_residual.result _ _ c.from_residual.ensures.1 (toml_tells _ _ c.in_err-table.ensures.refused)
