use Rattle.std.proofs.Common.{◌≡◌, ◌++◌, drop}
use Rattle.std.specs.Prelude.{flat_map, string_bytes}
use Rattle.sms_ledger.specs.Kept.{state_of}
use Rattle.sms_ledger.specs.Balance.{balance_line, balance_text}
use Rattle.sms_ledger.proofs.ledger.Ledger.balance_text.Given as goal

abbrev pub invariant-loop-account : goal.invariant-loop-account
invariant-loop-account l = string_bytes l.text ++ flat_map (balance_line (state_of l.self.books)) (drop l.account-index l.self.books.opened.items) ≡ balance_text (state_of l.self.books)
