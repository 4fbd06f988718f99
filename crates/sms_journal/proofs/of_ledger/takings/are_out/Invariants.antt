use Rattle.std.proofs.Common.{◌≡◌, drop}
use Rattle.sms_ledger.specs.InMemory.{state_in}
use Rattle.sms_journal.specs.OfLedger.{are_out}
use Rattle.sms_journal.proofs.of_ledger.takings.are_out.Given as goal

abbrev pub invariant-loop-name : goal.invariant-loop-name
invariant-loop-name l = record {
  place : l.place ≡ l.name-index;
  out : are_out l.run (state_in l.ledger) l.names l.openings ≡ are_out l.run (state_in l.ledger) (drop l.name-index l.names) (drop l.name-index l.openings);
}
