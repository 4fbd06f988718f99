use Rattle.std.proofs.Common.{Some}
use Rattle.toml.specs.View.{table_view}
use Rattle.sms_files.proofs.Toml.{no_toml, text_toml}
use Rattle.sms_files.proofs.config.reading.table_of.Goals as goal

pub returns-in-Err-clause-refused : goal.returns-in-Err-clause-refused
returns-in-Err-clause-refused c = no_toml c.args.octets.now c.in-Err.ensures.cases.0

pub returns-in-Ok-table_from_str-clause-table : goal.returns-in-Ok-table_from_str-clause-table
returns-in-Ok-table_from_str-clause-table c =
    text_toml c.args.octets.now c.in-Ok.text.now (Some (table_view c.in-Ok-table_from_str.table)) c.in-Ok.ensures.cases.0 c.in-Ok.ensures.cases.1 c.in-Ok-table_from_str.ensures.ok
