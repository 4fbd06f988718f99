use Rattle.std.specs.Str.Iter.{encode_utf16_rest, encode_utf16_pending}
use Rattle.sms_alphabet.proofs.Texts.{IsUnitsTo}
use Rattle.sms_alphabet.proofs.spelling.ucs2.Given as goal

abbrev pub invariant-loop-unit : goal.invariant-loop-unit
invariant-loop-unit l = IsUnitsTo l.units.items (encode_utf16_pending l.unit-iterator) (encode_utf16_rest l.unit-iterator) l.fn.text
