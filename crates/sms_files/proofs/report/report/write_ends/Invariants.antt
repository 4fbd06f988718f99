use Rattle.std.proofs.Common.{◌≡◌, ◌++◌, drop}
use Rattle.std.specs.Prelude.{string_bytes}
use Rattle.sms_files.specs.Report.{end_texts}
use Rattle.sms_files.proofs.report.report.write_ends.Given as goal

abbrev pub invariant-loop-end : goal.invariant-loop-end
invariant-loop-end g l = string_bytes l.text ++ end_texts (drop l.end-index l.ends) ≡ string_bytes l.initial.text ++ end_texts l.ends
