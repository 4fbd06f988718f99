use Rattle.std.proofs.Common.{◌≡◌, ◌<◌, drop}
use Rattle.std.specs.Str.Parse.{digits_value, digits_value_after}
use Rattle.sms_inbox.specs.Ids.{are_digits}
use Rattle.sms_inbox.proofs.ids.number_in.Given as goal

abbrev pub invariant-loop-c : goal.invariant-loop-c
invariant-loop-c l = record {
  value : digits_value_after l.radix l.number (drop l.c-index l.digits) ≡ digits_value l.radix l.digits;
  digits : are_digits l.radix (drop l.c-index l.digits) ≡ are_digits l.radix l.digits;
  low : l.number < 18446744073709551616;
}
