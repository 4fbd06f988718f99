use Rattle.std.proofs.Common.{◌≡◌, ◌++◌, drop}
use Rattle.sms_files.specs.Report.{quoted}
use Rattle.sms_journal.proofs.rest.printing.push_quoted.Given as goal

abbrev pub invariant-loop-octet : goal.invariant-loop-octet
invariant-loop-octet l = l.text.items ++ quoted (drop l.octet-index l.field) ≡ l.initial.text.items ++ quoted l.field
