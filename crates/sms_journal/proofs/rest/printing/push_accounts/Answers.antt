use Rattle.std.proofs.Common.{arith}
use Rattle.csv.specs.Records.{fields_of}
use Rattle.sms_journal.proofs.Texts.{account_end}
use Rattle.sms_journal.specs.Rest.{account_texts}
use Rattle.std.proofs.Common.{map, ◌++◌}
use Rattle.sms_journal.proofs.rest.printing.push_accounts.Goals as goal

pub returns : goal.returns
returns c =
    account_end fields_of c.args.openings.now c.args.rows.now c.loop-place.place c.loop-place.text.items (c.args.text.now.items ++ account_texts c.args.openings.now (map fields_of c.args.rows.now))
    (omega arith) c.loop-place.invariant
