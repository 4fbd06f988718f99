use Rattle.std.proofs.Common.{sym, ◌∙◌}
use Rattle.toml.specs.View.{table_view}
use Rattle.toml.proofs.Views.{table_get}
use Rattle.sms_files.proofs.Keys.{told}
use Rattle.sms_files.proofs.config.toml_value.flag_at.Goals as goal

pub returns-in-None-clause-flag : goal.returns-in-None-clause-flag
returns-in-None-clause-flag c =
    let found = table_get c.get.result c.args.key.now c.args.table.now.entries c.get.ensures.value in
    rw (← rw c.in-None.is at found)

pub returns-in-Some-as_bool-clause-flag : goal.returns-in-Some-as_bool-clause-flag
returns-in-Some-as_bool-clause-flag c =
    let found = table_get c.get.result c.args.key.now c.args.table.now.entries c.get.ensures.value in
    rw (← rw c.in-Some.is at found) (sym c.as_bool.ensures ∙ c.in-Some-as_bool.is)

pub returns-in-None-as_bool-clause-refused : goal.returns-in-None-as_bool-clause-refused
returns-in-None-as_bool-clause-refused c =
    let found = table_get c.get.result c.args.key.now c.args.table.now.entries c.get.ensures.value in
    rw (← rw c.in-Some.is at found) (told (table_view c.args.table.now) c.args.key.now _ c.bad_key.result (sym c.as_bool.ensures ∙ c.in-None-as_bool.is) c.bad_key.ensures)
