-- The parts counted and those of the rest are all parts.
use Rattle.std.proofs.Common.{◌≡◌, ◌+◌, ◌-◌, length}
use Rattle.sms_segment.specs.Group.{groups}
use Rattle.sms_segment.specs.Cutting.{full_cutting}
use Rattle.sms_segment.proofs.cutting.part_count.Given as goal

abbrev pub invariant-loop-rest : goal.invariant-loop-rest
invariant-loop-rest l = length (full_cutting l.limit (groups l.coding l.units)) ≡ l.count + length (full_cutting l.limit (groups l.coding l.rest))

abbrev pub decreases-loop-rest : goal.decreases-loop-rest
decreases-loop-rest l = 255 - l.count
