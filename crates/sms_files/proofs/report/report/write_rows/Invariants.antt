use Rattle.std.proofs.Common.{◌≡◌, ◌++◌, drop}
use Rattle.std.specs.Prelude.{string_bytes}
use Rattle.sms_files.specs.Report.{row_texts}
use Rattle.sms_files.proofs.report.report.write_rows.Given as goal

abbrev pub invariant-loop-place : goal.invariant-loop-place
invariant-loop-place l =
    string_bytes l.text ++ row_texts (drop l.place l.openings) (drop l.place l.rows) ≡ string_bytes l.initial.text ++ row_texts l.openings l.rows
