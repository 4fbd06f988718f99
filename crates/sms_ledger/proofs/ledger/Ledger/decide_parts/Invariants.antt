use Rattle.std.proofs.Common.{drop}
use Rattle.std.specs.Prelude.{string_bytes}
use Rattle.sms_ledger.specs.Kept.{state_of}
use Rattle.sms_ledger.proofs.DecidedOnce.{AreDecided}
use Rattle.sms_ledger.proofs.ledger.Ledger.decide_parts.Given as goal

abbrev pub invariant-loop-d : goal.invariant-loop-d
invariant-loop-d l = AreDecided l.time l.decisions (drop l.d-index l.decisions) (state_of l.fn.self.books) (state_of l.self.books) (string_bytes l.text)
