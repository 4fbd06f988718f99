use Rattle.std.proofs.Common.{◌≡◌, ◌++◌, drop, take}
use Rattle.sms_inbox.specs.Parameters.{before_zero}
use Rattle.sms_inbox.proofs.parameters.before_zero.Given as goal

abbrev pub invariant-loop-i : goal.invariant-loop-i
invariant-loop-i l = take l.i l.value ++ before_zero (drop l.i l.value) ≡ before_zero l.value
