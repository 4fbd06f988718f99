use Rattle.std.proofs.Common.{◌≡◌, drop}
use Rattle.sms_files.specs.Warnings.{behind_line}
use Rattle.sms_files.proofs.report.quote.warning.behind_line.Given as goal

abbrev pub invariant-loop-place : goal.invariant-loop-place
invariant-loop-place l = behind_line (drop l.place l.text) ≡ behind_line l.text
