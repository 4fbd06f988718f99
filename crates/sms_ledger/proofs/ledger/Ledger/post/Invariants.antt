use Rattle.std.proofs.Common.{take}
use Rattle.std.specs.Prelude.{string_bytes}
use Rattle.sms_ledger.specs.Kept.{state_of}
use Rattle.sms_ledger.specs.Posting.{ArePosted}
use Rattle.sms_ledger.proofs.ledger.Ledger.post.Given as goal

abbrev pub invariant-loop-entry : goal.invariant-loop-entry
invariant-loop-entry l = ArePosted l.time (take l.entry-index l.entries) (state_of l.fn.self.books) (state_of l.self.books) (string_bytes l.text)
