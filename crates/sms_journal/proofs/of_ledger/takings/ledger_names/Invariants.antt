use Rattle.std.proofs.Common.{take}
use Rattle.sms_journal.specs.OfLedger.{HaveNames}
use Rattle.sms_journal.proofs.of_ledger.takings.ledger_names.Given as goal

abbrev pub invariant-loop-opening : goal.invariant-loop-opening
invariant-loop-opening l = HaveNames (take l.opening-index l.openings) l.names.items
