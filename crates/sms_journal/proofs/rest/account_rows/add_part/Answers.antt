use Rattle.std.proofs.Common.{refl, rules}
use Rattle.std.specs.Prelude.{slice_set}
use Rattle.sms_journal.proofs.AccountRows.{added}
use Rattle.sms_journal.proofs.rest.account_rows.add_part.Goals as goal

pub returns : goal.returns
returns c = λ openings entries are.
    added openings entries c.args.rows.now.items (slice_set c.args.rows.now.items c.args.account c.in-Some-with_part.grown) c.args.account c.args.cost c.args.outcome c.in-Some.row c.in-Some-with_part.grown (search rules) (search rules) refl are
