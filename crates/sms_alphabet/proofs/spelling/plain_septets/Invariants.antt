use Rattle.std.proofs.Common.{◌≡◌, ◌≤◌, Some, length, take, vec_capacity}
use Rattle.sms_alphabet.specs.Spelling.{gsm_spelling}
use Rattle.sms_alphabet.proofs.spelling.plain_septets.Given as goal

abbrev pub invariant-loop-octet : goal.invariant-loop-octet
invariant-loop-octet l =
    (Some l.codes.items ≡ gsm_spelling (take l.octet-index l.text))
    × (length l.codes.items ≡ l.octet-index)
    × (length l.text ≤ vec_capacity l.codes)
