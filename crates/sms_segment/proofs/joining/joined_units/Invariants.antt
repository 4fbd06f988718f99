use Rattle.std.proofs.Common.{◌≡◌, take}
use Rattle.std.specs.List.{flat_map}
use Rattle.sms_segment.proofs.joining.joined_units.Given as goal

abbrev pub invariant-loop-part : goal.invariant-loop-part
invariant-loop-part l = l.units.items ≡ flat_map (λ part. part.units) (take l.part-index l.parts)
