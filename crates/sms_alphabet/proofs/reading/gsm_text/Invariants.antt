use Rattle.std.proofs.Common.{length, string_bytes}
use Rattle.sms_alphabet.proofs.Readings.{IsReadTo}
use Rattle.sms_alphabet.proofs.reading.gsm_text.Given as goal

abbrev pub invariant-loop-c : goal.invariant-loop-c
invariant-loop-c l = IsReadTo l.codes (string_bytes l.text) l.rest

abbrev pub decreases-loop-c : goal.decreases-loop-c
decreases-loop-c l = length l.rest
