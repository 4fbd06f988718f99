use Rattle.std.proofs.Common.{map}
use Rattle.csv.specs.Records.{fields_of}
use Rattle.sms_journal.proofs.Stages.{HasRead}
use Rattle.sms_journal.proofs.rest.stage.check_report.Given as goal

abbrev pub invariant-loop-place : goal.invariant-loop-place
invariant-loop-place l = HasRead l.most l.plans l.openings (map fields_of l.records) l.place l.stage l.rows.items
