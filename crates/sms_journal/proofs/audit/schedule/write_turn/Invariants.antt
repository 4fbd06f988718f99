use Rattle.std.proofs.Common.{drop}
use Rattle.sms_journal.specs.ScheduleText.{Leaves}
use Rattle.sms_journal.specs.Schedules.{parts_events, those}
use Rattle.sms_journal.specs.Turns.{drawn_by, is_of_turn}
use Rattle.sms_journal.proofs.audit.schedule.write_turn.Given as goal

abbrev pub invariant-loop-place : goal.invariant-loop-place
invariant-loop-place l =
    Leaves l.initial.lines l.lines (parts_events l.most l.initial.lines.next (those (is_of_turn l.turn) 0 l.parts)) (parts_events l.most l.lines.next (those (is_of_turn l.turn) l.place (drop l.place l.parts)))
    (drawn_by (those (is_of_turn l.turn) 0 l.parts)) (drawn_by (those (is_of_turn l.turn) l.place (drop l.place l.parts)))
