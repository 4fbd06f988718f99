use Rattle.std.proofs.Common.{drop, length, map}
use Rattle.sms_journal.specs.Replied.{said}
use Rattle.sms_journal.specs.ScheduleText.{Leaves}
use Rattle.sms_journal.specs.Schedules.{attempt_events}
use Rattle.sms_journal.proofs.audit.lines.write_attempts.Given as goal

abbrev pub invariant-loop-place : goal.invariant-loop-place
invariant-loop-place l =
    Leaves l.initial.lines l.lines (attempt_events l.name l.initial.lines.next (map said l.attempts)) (attempt_events l.name l.lines.next (map said (drop l.place l.attempts))) (length l.attempts) (length (drop l.place l.attempts))
