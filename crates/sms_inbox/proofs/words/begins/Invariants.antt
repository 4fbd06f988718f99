use Rattle.std.proofs.Common.{◌≡◌, drop}
use Rattle.sms_inbox.specs.Words.{begins}
use Rattle.sms_inbox.proofs.words.begins.Given as goal

abbrev pub invariant-loop-i : goal.invariant-loop-i
invariant-loop-i l = begins (drop l.i l.key) (drop l.i l.word) ≡ begins l.key l.word
