use Rattle.std.proofs.Common.{◌≡◌, ◌++◌, drop}
use Rattle.sms_send.specs.Delivered.{charged_parts}
use Rattle.sms_send.proofs.jobs.charged.charged_parts.Given as goal

abbrev pub invariant-loop-end : goal.invariant-loop-end
invariant-loop-end l = l.parts.items ++ charged_parts (drop l.end-index l.ends) ≡ charged_parts l.ends
