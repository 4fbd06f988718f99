use Rattle.std.proofs.Common.{◌++◌}
use Rattle.std.specs.Prelude.{string_bytes}
use Rattle.std.specs.Str.Iter.{chars_rest}
use Rattle.sms_files.specs.Report.{quoted}
use Rattle.sms_files.proofs.Signing.{with_other}
use Rattle.sms_files.proofs.report.report.write_quoted.Goals as goal

pub loop-c-preserved : goal.loop-c-preserved
loop-c-preserved c =
    with_other (string_bytes c.loop-c.text) (string_bytes c.append_char.new.text) (string_bytes c.args.text.now ++ quoted c.args.field.now) (chars_rest c.loop-c.c-iterator) (chars_rest c.next.new.self)
    c.in-Some.c c.loop-c.invariant c.in-Some.ensures.steps.0 c.if-c-eq34.false c.in_ok-append_char.ensures.bytes
