use Rattle.std.proofs.Common.{◌++◌, ◌-◌, arith}
use Rattle.csv.specs.Records.{fields_of}
use Rattle.sms_journal.specs.PlainFiles.{nexts_from}
use Rattle.sms_journal.proofs.PlainLines.{field_more, fields_end}
use Rattle.sms_journal.proofs.plain.push_nexts.Goals as goal

pub loop-place-preserved : goal.loop-place-preserved
loop-place-preserved c =
    field_more (fields_of c.args.record.now) c.args.width c.loop-place.place c.loop-place.text.items c.push_next.new.text.items
    (c.args.text.now.items ++ nexts_from (fields_of c.args.record.now) 1 (c.args.width - 1)) (omega arith) c.loop-place.invariant c.in_ok-push_next.ensures

pub returns : goal.returns
returns c =
    fields_end (fields_of c.args.record.now) c.args.width c.loop-place.place c.loop-place.text.items
    (c.args.text.now.items ++ nexts_from (fields_of c.args.record.now) 1 (c.args.width - 1)) (omega arith) c.loop-place.invariant
