use Rattle.std.proofs.Common.{◌≡◌, ◌≤◌, ◌+◌, drop}
use Rattle.sms_send.specs.Unsent.{without_memory}
use Rattle.sms_send.proofs.faults.unsent.unsent_for_memory.Given as goal

abbrev pub invariant-loop-end : goal.invariant-loop-end
invariant-loop-end l = (l.count + without_memory (drop l.end-index l.ends) ≡ without_memory l.ends) × (l.count ≤ l.end-index)
