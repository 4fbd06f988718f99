use Rattle.std.proofs.Common.{◌≡◌, drop}
use Rattle.sms_journal.specs.RecordLines.{are_visible as they_are_visible}
use Rattle.sms_journal.proofs.rest.report_line.are_visible.Given as goal

abbrev pub invariant-loop-octet : goal.invariant-loop-octet
invariant-loop-octet l = they_are_visible (drop l.octet-index l.id) ≡ they_are_visible l.id
