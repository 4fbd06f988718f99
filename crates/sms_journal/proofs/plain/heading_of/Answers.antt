use Rattle.csv.specs.Records.{fields_of}
use Rattle.sms_files.specs.Fields.{records_of}
use Rattle.sms_files.proofs.Runs.{at_known}
use Rattle.sms_journal.proofs.PlainLines.{heading_is, no_heading}
use Rattle.sms_journal.proofs.plain.heading_of.Goals as goal

pub returns-then-branch : goal.returns-then-branch
returns-then-branch c =
    heading_is (records_of c.args.octets.now) c.in_ok-next_of.field-0 (fields_of c.next_of.new.record) _ c.heading_by.result
    (at_known _ _ (records_of c.args.octets.now) c.in_ok-next_of.ensures.first c.read_all-reader.ensures.whole) c.if-branch.true c.heading_by.ensures

pub returns : goal.returns
returns c =
    no_heading (records_of c.args.octets.now) c.in_ok-next_of.field-0 (fields_of c.next_of.new.record) _
    (at_known _ _ (records_of c.args.octets.now) c.in_ok-next_of.ensures.first c.read_all-reader.ensures.whole) c.if-branch.false
