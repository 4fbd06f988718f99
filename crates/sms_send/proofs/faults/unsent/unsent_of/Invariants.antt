use Rattle.std.proofs.Common.{◌≡◌, ◌≤◌, ◌+◌, drop}
use Rattle.sms_send.specs.Unsent.{unsent_from}
use Rattle.sms_send.proofs.faults.unsent.unsent_of.Given as goal

abbrev pub invariant-loop-place : goal.invariant-loop-place
invariant-loop-place l =
    (l.count + unsent_from l.workers l.binds l.bind l.place (drop l.place l.ends) ≡ unsent_from l.workers l.binds l.bind 0 l.ends)
    × (l.count ≤ l.place)
