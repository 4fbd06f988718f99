use Rattle.std.proofs.Common.{◌≡◌, ◌≤◌, ◌+◌, drop}
use Rattle.sms_journal.specs.Left.{count_left}
use Rattle.sms_journal.proofs.further.left.count_left.Given as goal

abbrev pub invariant-loop-end : goal.invariant-loop-end
invariant-loop-end g l = (l.count + count_left (drop l.end-index l.ends) ≡ count_left l.ends) × (l.count ≤ l.end-index)
