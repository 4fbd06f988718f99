use Rattle.std.proofs.Common.{◌≡◌, ◌++◌, drop}
use Rattle.std.specs.Prelude.{string_bytes}
use Rattle.sms_files.specs.QuoteText.{quote_lines}
use Rattle.sms_files.proofs.report.quote.text.write_quotes.Given as goal

abbrev pub invariant-loop-place : goal.invariant-loop-place
invariant-loop-place l =
    string_bytes l.text ++ quote_lines l.openings (drop l.place l.messages) (drop l.place l.quotes) ≡ string_bytes l.initial.text ++ quote_lines l.openings l.messages l.quotes
