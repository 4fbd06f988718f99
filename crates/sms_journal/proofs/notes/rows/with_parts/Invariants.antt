use Rattle.std.proofs.Common.{◌≡◌, ◌+◌, drop}
use Rattle.sms_core.specs.Rows.{reserved_of, charged_of, returned_of}
use Rattle.sms_journal.specs.Sums.{over_parts}
use Rattle.sms_journal.proofs.notes.rows.with_parts.Given as goal

abbrev pub invariant-loop-part : goal.invariant-loop-part
invariant-loop-part l = record {
  reserved : l.kept.reserved + over_parts reserved_of (drop l.part-index l.parts) ≡ l.initial.kept.reserved + over_parts reserved_of l.parts;
  charged : l.kept.charged + over_parts charged_of (drop l.part-index l.parts) ≡ l.initial.kept.charged + over_parts charged_of l.parts;
  returned : l.kept.returned + over_parts returned_of (drop l.part-index l.parts) ≡ l.initial.kept.returned + over_parts returned_of l.parts;
}
