use Rattle.std.proofs.Common.{◌≡◌, drop}
use Rattle.sms_inbox.specs.Parameters.{value_of}
use Rattle.sms_inbox.proofs.parameters.value_of.Given as goal

abbrev pub invariant-loop-p : goal.invariant-loop-p
invariant-loop-p l = value_of l.tag (drop l.p-index l.params) ≡ value_of l.tag l.params
