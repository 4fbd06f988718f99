use Rattle.csv.specs.Records.{fields_of}
use Rattle.sms_journal.proofs.Texts.{at_end}
use Rattle.sms_journal.proofs.rest.printing.rows_of.Goals as goal

pub returns : goal.returns
returns c = at_end fields_of c.args.report.now c.args.accounts c.saturating_sub-lines.result c.saturating_sub-lines.ensures
