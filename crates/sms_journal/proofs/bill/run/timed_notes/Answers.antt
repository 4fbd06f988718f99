use Rattle.std.proofs.Common.{inr, refl, subst}
use Rattle.sms_journal.specs.Lines.{AreFaultyLines}
use Rattle.sms_journal.proofs.bill.run.timed_notes.Goals as goal

pub returns-in-Ok-clause-timed : goal.returns-in-Ok-clause-timed
returns-in-Ok-clause-timed c = record { behind = c.behind_first.result.now; is = c.behind_first.ensures; timed = c.in-Ok.ensures.timed }

pub returns-in-BadRecord-clause-refused : goal.returns-in-BadRecord-clause-refused
returns-in-BadRecord-clause-refused c =
    inr (c.in-BadRecord.record, c.behind_first.result.now, refl, c.behind_first.ensures, subst (AreFaultyLines c.behind_first.result.now) c.in-BadRecord.is c.in-Err.ensures.faulty)
