use Rattle.std.proofs.Common.{◌≡◌, ◌++◌, drop}
use Rattle.sms_ledger.specs.Kept.{state_of}
use Rattle.sms_ledger.specs.Posting.{takings_of}
use Rattle.sms_ledger.proofs.ledger.Ledger.takings.Given as goal

abbrev pub invariant-loop-account : goal.invariant-loop-account
invariant-loop-account l = l.entries.items ++ takings_of l.run (state_of l.self.books) (drop l.account-index l.accounts) ≡ takings_of l.run (state_of l.self.books) l.accounts
