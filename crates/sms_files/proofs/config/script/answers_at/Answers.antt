use Rattle.std.proofs.Common.{codes, rules}
use Rattle.toml.specs.View.{table_view}
use Rattle.toml.proofs.Views.{table_get}
use Rattle.sms_files.proofs.Keys.{told}
use Rattle.sms_files.proofs.config.script.answers_at.Goals as goal

pub returns-in_ok-default_answers-in-None-clause-answers : goal.returns-in_ok-default_answers-in-None-clause-answers
returns-in_ok-default_answers-in-None-clause-answers c =
    let found = table_get c.get.result (codes "answers") c.args.table.now.entries c.get.ensures.value in
    rw (← rw c.in-None.is at found) (search rules)

pub returns-in-Some-2-clause-answers : goal.returns-in-Some-2-clause-answers
returns-in-Some-2-clause-answers c =
    let found = table_get c.get.result (codes "answers") c.args.table.now.entries c.get.ensures.value in
    rw (← rw c.in-Some.is at found) (search rules)

pub returns-in-None-2-clause-refused : goal.returns-in-None-2-clause-refused
returns-in-None-2-clause-refused c =
    let found = table_get c.get.result (codes "answers") c.args.table.now.entries c.get.ensures.value in
    rw (← rw c.in-Some.is at found) (told (table_view c.args.table.now) (codes "answers") _ c.bad_key.result (search rules) c.bad_key.ensures)
