use Rattle.std.proofs.Common.{◌≡◌, length, take}
use Rattle.sms_files.specs.Quotes.{AreQuotesOf}
use Rattle.sms_files.specs.Totals.{AreTotals}
use Rattle.sms_files.proofs.report.quote.quoting.quoted.Given as goal

abbrev pub invariant-loop-place : goal.invariant-loop-place
invariant-loop-place l = record {
  count : length l.quotes.items ≡ l.place;
  each : AreQuotesOf l.openings l.long l.tariff l.messages l.quotes.items;
  totals : AreTotals l.openings (take l.place l.messages) l.quotes.items l.totals.items;
}
