use Rattle.std.proofs.Common.{Some, ap, sym, ◌∙◌}
use Rattle.std.specs.Prelude.{option_map}
use Rattle.toml.specs.View.{table_view}
use Rattle.toml.proofs.Views.{table_get}
use Rattle.sms_files.proofs.Keys.{told}
use Rattle.sms_files.proofs.config.toml_value.number_if_at.Goals as goal

pub returns-in-None-clause-number : goal.returns-in-None-clause-number
returns-in-None-clause-number c =
    let found = table_get c.get.result c.args.key.now c.args.table.now.entries c.get.ensures.value in
    rw (← rw c.in-None.is at found)

pub returns-in-Some-number_of-clause-number : goal.returns-in-Some-number_of-clause-number
returns-in-Some-number_of-clause-number c =
    let found = table_get c.get.result c.args.key.now c.args.table.now.entries c.get.ensures.value in
    rw (← rw c.in-Some.is at found) (ap (option_map Some) (sym c.number_of.ensures.is ∙ c.in-Some-number_of.is))

pub returns-in-None-number_of-clause-refused : goal.returns-in-None-number_of-clause-refused
returns-in-None-number_of-clause-refused c =
    let found = table_get c.get.result c.args.key.now c.args.table.now.entries c.get.ensures.value in
    rw (← rw c.in-Some.is at found) (told (table_view c.args.table.now) c.args.key.now _ c.bad_key.result (ap (option_map Some) (sym c.number_of.ensures.is ∙ c.in-None-number_of.is)) c.bad_key.ensures)
