use Rattle.std.proofs.Common.{◌≡◌, ◌++◌, take}
use Rattle.std.specs.List.{flat_map}
use Rattle.sms_alphabet.specs.declared.coded.Coding.TheVariants.{Ucs2}
use Rattle.sms_segment.specs.Part.{octets_of}
use Rattle.sms_segment.proofs.part.push_big_endian.Given as goal

abbrev pub invariant-loop-unit : goal.invariant-loop-unit
invariant-loop-unit l = l.octets.items ≡ l.initial.octets.items ++ flat_map (octets_of Ucs2) (take l.unit-index l.units)
