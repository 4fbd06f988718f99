use Rattle.std.proofs.Common.{◌≡◌, ◌++◌, drop}
use Rattle.sms_journal.specs.OfLedger.{takings_for}
use Rattle.sms_journal.proofs.of_ledger.takings.takings_for.Given as goal

abbrev pub invariant-loop-name : goal.invariant-loop-name
invariant-loop-name l = record {
  place : l.place ≡ l.name-index;
  takings : l.entries.items ++ takings_for l.run (drop l.name-index l.names) (drop l.name-index l.openings) ≡ takings_for l.run l.names l.openings;
}
