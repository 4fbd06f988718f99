use Rattle.std.proofs.Common.{◌≡◌, ◌≤◌, length, take, vec_capacity}
use Rattle.sms_alphabet.proofs.spelling.units_of.Given as goal

abbrev pub invariant-loop-code : goal.invariant-loop-code
invariant-loop-code l = (l.units.items ≡ take l.code-index l.codes) × (length l.codes ≤ vec_capacity l.units)
