use Rattle.std.proofs.Common.{refl}
use Rattle.sms_files.proofs.RefRecords.{lines-of-rows}
use Rattle.sms_files.proofs.refs.plain_of.Goals as goal

pub returns : goal.returns
returns c = rw (c.in_ok-write_rows.ensures, c.in_ok-text.ensures.ok, lines-of-rows c.args.rows.now) refl
