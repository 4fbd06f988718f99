-- The parts made and those of the rest are all parts.
use Rattle.std.proofs.Common.{◌≡◌, ◌+◌, ◌++◌, length, map}
use Rattle.std.specs.List.{concat}
use Rattle.sms_segment.specs.Group.{groups}
use Rattle.sms_segment.specs.Cutting.{full_cutting}
use Rattle.sms_segment.specs.Message.{numbered}
use Rattle.sms_segment.proofs.cutting.numbered_parts.Given as goal

abbrev pub invariant-loop-before : goal.invariant-loop-before
invariant-loop-before l =
    (l.before + length (full_cutting l.limit (groups l.text.coding l.rest)) ≡ l.count)
    × (numbered l.text.coding l.reference l.count 1 (map concat (full_cutting l.limit (groups l.text.coding l.text.units)))
    ≡ l.parts.items ++ numbered l.text.coding l.reference l.count (l.before + 1) (map concat (full_cutting l.limit (groups l.text.coding l.rest))))
