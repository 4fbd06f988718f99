use Rattle.std.proofs.Common.{◌≡◌, map, take}
use Rattle.sms_journal.specs.Sums.{attempt_without_evidence}
use Rattle.sms_journal.proofs.further.evidence.attempts_of.Given as goal

abbrev pub invariant-loop-attempt : goal.invariant-loop-attempt
invariant-loop-attempt g l = l.bare.items ≡ take l.attempt-index (map attempt_without_evidence l.attempts)
