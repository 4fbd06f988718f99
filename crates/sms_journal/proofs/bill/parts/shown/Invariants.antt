use Rattle.std.proofs.Common.{◌≡◌, map, take}
use Rattle.std.specs.Prelude.{string_bytes}
use Rattle.sms_files.specs.Report.{shown_octet}
use Rattle.sms_journal.proofs.bill.parts.shown.Given as goal

abbrev pub invariant-loop-octet : goal.invariant-loop-octet
invariant-loop-octet l = string_bytes l.shown ≡ map shown_octet (take l.octet-index l.id)
