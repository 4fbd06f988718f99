use Rattle.std.proofs.Common.{◌≡◌, length, take, min}
use Rattle.std.specs.List.{flat_map}
use Rattle.sms_segment.proofs.joining.unit_count.Given as goal

abbrev pub invariant-loop-part : goal.invariant-loop-part
invariant-loop-part l = l.count ≡ min (length (flat_map (λ part. part.units) (take l.part-index l.parts))) 18446744073709551615
