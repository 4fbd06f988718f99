use Rattle.std.proofs.Common.{◌≡◌, map, take}
use Rattle.sms_journal.specs.Sums.{end_without_evidence}
use Rattle.sms_journal.proofs.further.evidence.without_evidence.Given as goal

abbrev pub invariant-loop-end : goal.invariant-loop-end
invariant-loop-end g l = l.bare.items ≡ take l.end-index (map end_without_evidence l.ends)
