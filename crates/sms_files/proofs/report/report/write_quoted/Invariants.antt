use Rattle.std.proofs.Common.{◌≡◌, ◌++◌}
use Rattle.std.specs.Prelude.{string_bytes}
use Rattle.std.specs.Str.Iter.{chars_rest}
use Rattle.sms_files.specs.Report.{quoted}
use Rattle.sms_files.proofs.report.report.write_quoted.Given as goal

abbrev pub invariant-loop-c : goal.invariant-loop-c
invariant-loop-c l = string_bytes l.text ++ quoted (chars_rest l.c-iterator) ≡ string_bytes l.initial.text ++ quoted l.field
