use Rattle.std.proofs.Common.{◌≡◌, ◌++◌, drop}
use Rattle.std.specs.Prelude.{string_bytes}
use Rattle.sms_files.specs.QuoteText.{total_lines}
use Rattle.sms_files.proofs.report.quote.text.write_accounts.Given as goal

abbrev pub invariant-loop-place : goal.invariant-loop-place
invariant-loop-place l = string_bytes l.text ++ total_lines (drop l.place l.openings) (drop l.place l.totals) ≡ string_bytes l.initial.text ++ total_lines l.openings l.totals
