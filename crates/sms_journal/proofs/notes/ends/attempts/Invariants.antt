use Rattle.std.proofs.Common.{◌≡◌, ◌++◌, take}
use Rattle.std.specs.Prelude.{flat_map}
use Rattle.sms_journal.specs.Recovered.{listed}
use Rattle.sms_journal.specs.Index.{attempts_by}
use Rattle.sms_journal.proofs.notes.ends.attempts.Given as goal

abbrev pub invariant-loop-sent : goal.invariant-loop-sent
invariant-loop-sent l = l.attempts.items ≡ flat_map (attempts_by l.evidence.notes.now l.part) (listed l.evidence.first) ++ flat_map (attempts_by l.evidence.notes.now l.part) (take l.sent-index l.evidence.others.now)
