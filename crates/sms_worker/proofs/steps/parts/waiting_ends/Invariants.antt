use Rattle.std.proofs.Common.{◌≡◌, ◌≤◌}
use Rattle.std.specs.Vec.{vec_len, vec_capacity}
use Rattle.sms_worker.specs.Begins.{ready}
use Rattle.sms_worker.proofs.steps.parts.waiting_ends.Given as goal

abbrev pub invariant-loop : goal.invariant-loop
invariant-loop l = record { items : l.ends.items ≡ ready l.cost l.counter; made : vec_len l.ends ≡ l.counter; room : l.count ≤ vec_capacity l.ends }
