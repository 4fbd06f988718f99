use Rattle.std.proofs.Common.{◌≡◌, ◌≤◌, ◌+◌, drop}
use Rattle.sms_files.specs.Warnings.{commas}
use Rattle.sms_files.proofs.report.quote.warning.commas_in.Given as goal

abbrev pub invariant-loop-octet : goal.invariant-loop-octet
invariant-loop-octet l = record {
  counted : l.count + commas (drop l.octet-index l.text) ≡ commas l.text;
  small : l.count ≤ l.octet-index;
}
