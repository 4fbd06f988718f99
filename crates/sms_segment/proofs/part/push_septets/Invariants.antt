use Rattle.std.proofs.Common.{◌≡◌, ◌+◌, ◌≤◌, ◌++◌, length, take, vec_capacity}
use Rattle.std.specs.List.{flat_map}
use Rattle.sms_alphabet.specs.declared.coded.Coding.TheVariants.{Gsm}
use Rattle.sms_segment.specs.Part.{octets_of}
use Rattle.sms_segment.proofs.part.push_septets.Given as goal

abbrev pub invariant-loop-unit : goal.invariant-loop-unit
invariant-loop-unit l =
    (l.octets.items ≡ l.initial.octets.items ++ flat_map (octets_of Gsm) (take l.unit-index l.units))
    × (length l.octets.items ≡ length l.initial.octets.items + l.unit-index)
    × (length l.initial.octets.items + length l.units ≤ vec_capacity l.octets)
