use Rattle.std.specs.Str.Iter.{chars_rest}
use Rattle.sms_alphabet.proofs.Texts.{IsSpelledTo}
use Rattle.sms_alphabet.proofs.spelling.mixed_septets.Given as goal

abbrev pub invariant-loop-c : goal.invariant-loop-c
invariant-loop-c l = IsSpelledTo l.codes.items (chars_rest l.c-iterator) l.fn.text
