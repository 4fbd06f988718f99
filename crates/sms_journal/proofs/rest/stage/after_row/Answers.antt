use Rattle.std.proofs.Common.{◌≡◌, ◌∙◌, sym, ap, None, Some, rules}
use Rattle.std.specs.Prelude.{option_copied, slice_get}
use Rattle.csv.specs.Records.{fields_of}
use Rattle.sms_journal.proofs.Stages.{row_differs, row_missing, row_stands}
use Rattle.sms_journal.proofs.rest.stage.after_row.Goals as goal

pub returns-in_default-row_at : goal.returns-in_default-row_at
returns-in_default-row_at c = λ entries are.
    let there : slice_get c.args.openings.now c.args.done ≡ Some c.in-Some.opening.now = sym c.opening_at.ensures ∙ ap option_copied c.in-Some.is in
    let none : slice_get c.args.rows.now c.args.done ≡ None = search rules in
    absurd (row_missing c.args.openings.now entries c.args.rows.now c.args.done c.in-Some.opening.now there none are)

pub returns-then-is_account : goal.returns-then-is_account
returns-then-is_account c = λ entries are.
    let there : slice_get c.args.openings.now c.args.done ≡ Some c.in-Some.opening.now = sym c.opening_at.ensures ∙ ap option_copied c.in-Some.is in
    let row : slice_get c.args.rows.now c.args.done ≡ Some c.in-Some-row_at.row = search rules in
    row_stands c.args.openings.now entries c.args.rows.now c.args.done c.in-Some.opening.now c.in-Some-row_at.row (fields_of c.args.record.now) there row (search rules) are

pub returns-else-is_account : goal.returns-else-is_account
returns-else-is_account c = λ entries are.
    let there : slice_get c.args.openings.now c.args.done ≡ Some c.in-Some.opening.now = sym c.opening_at.ensures ∙ ap option_copied c.in-Some.is in
    let row : slice_get c.args.rows.now c.args.done ≡ Some c.in-Some-row_at.row = search rules in
    row_differs c.args.openings.now entries c.args.rows.now c.args.done c.in-Some.opening.now c.in-Some-row_at.row (fields_of c.args.record.now) there row (search rules) are
