use Rattle.std.proofs.Common.{◌≡◌, take}
use Rattle.std.specs.List.{list_all}
use Rattle.sms_alphabet.specs.Alphabet.{is_plain}
use Rattle.sms_alphabet.proofs.spelling.are_plain.Given as goal

abbrev pub invariant-loop-octet : goal.invariant-loop-octet
invariant-loop-octet l = l.plain ≡ list_all is_plain (take l.octet-index l.text)
