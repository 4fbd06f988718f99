use Rattle.std.proofs.Common.{◌≡◌, ◌++◌, drop}
use Rattle.std.specs.Prelude.{string_bytes}
use Rattle.sms_files.specs.Warnings.{warning_lines}
use Rattle.sms_files.proofs.report.quote.warning.write_warnings.Given as goal

abbrev pub invariant-loop-place : goal.invariant-loop-place
invariant-loop-place l = string_bytes l.text ++ warning_lines (drop l.place l.messages) ≡ string_bytes l.initial.text ++ warning_lines l.messages
