use Rattle.std.proofs.Common.{◌≡◌, drop}
use Rattle.sms_files.specs.Report.{needs_quotes}
use Rattle.sms_files.proofs.report.report.needs_quotes.Given as goal

abbrev pub invariant-loop-octet : goal.invariant-loop-octet
invariant-loop-octet l = needs_quotes l.field ≡ needs_quotes (drop l.octet-index l.field)
