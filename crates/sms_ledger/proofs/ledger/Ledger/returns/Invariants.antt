use Rattle.std.proofs.Common.{◌≡◌, ◌++◌, drop}
use Rattle.sms_ledger.specs.Kept.{state_of}
use Rattle.sms_ledger.specs.Posting.{returns_of}
use Rattle.sms_ledger.proofs.ledger.Ledger.returns.Given as goal

abbrev pub invariant-loop-account : goal.invariant-loop-account
invariant-loop-account l = record {
  place : l.place ≡ l.account-index;
  returns : l.entries.items ++ returns_of l.run (state_of l.self.books) (drop l.account-index l.accounts) (drop l.account-index l.rows) ≡ returns_of l.run (state_of l.self.books) l.accounts l.rows;
}
