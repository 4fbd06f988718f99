use Rattle.std.proofs.Common.{drop}
use Rattle.sms_book.specs.Openings.{credits_of}
use Rattle.sms_journal.specs.ScheduleText.{Leaves}
use Rattle.sms_journal.specs.Schedules.{top_ups}
use Rattle.sms_journal.proofs.audit.schedule.write_top_ups.Given as goal

abbrev pub invariant-loop-place : goal.invariant-loop-place
invariant-loop-place l = Leaves l.initial.lines l.lines (top_ups 0 (credits_of l.openings)) (top_ups l.place (credits_of (drop l.place l.openings))) 0 0
