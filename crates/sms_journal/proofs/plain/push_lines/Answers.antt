use Rattle.std.proofs.Common.{◌≡◌, ◌+◌, ◌++◌, length, map, arith}
use Rattle.std.specs.Prelude.{◌==◌, ◌&&◌}
use Rattle.csv.specs.Records.{fields_of}
use Rattle.sms_journal.specs.PlainFiles.{line_with, plain_lines, width_of}
use Rattle.sms_journal.proofs.PlainLines.{line_more, lines_end}
use Rattle.sms_journal.proofs.plain.push_lines.Goals as goal

pub loop-place-preserved : goal.loop-place-preserved
loop-place-preserved c =
    let r = fields_of c.index-rows-place.result in
    let grows : c.push_line.new.text.items ≡ c.loop-place.text.items ++ line_with (width_of (c.args.quoted && (c.loop-place.place + 1 == length c.args.rows.now)) r) r =
    rw (← c.is_open_at.ensures, ← c.width_of-width.ensures) c.in_ok-push_line.ensures in
    line_more fields_of c.args.quoted c.args.rows.now c.loop-place.place c.index-rows-place.result c.loop-place.text.items c.push_line.new.text.items
    (c.args.text.now.items ++ plain_lines c.args.quoted (map fields_of c.args.rows.now)) (omega arith) c.index-rows-place.is c.loop-place.invariant grows

pub returns : goal.returns
returns c =
    lines_end fields_of c.args.quoted c.args.rows.now c.loop-place.place c.loop-place.text.items
    (c.args.text.now.items ++ plain_lines c.args.quoted (map fields_of c.args.rows.now)) (omega arith) c.loop-place.invariant
