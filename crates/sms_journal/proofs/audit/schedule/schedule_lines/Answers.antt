use Rattle.std.proofs.Common.{◌∙◌, ◌++◌, List, ℕ, ap}
use Rattle.sms_book.specs.Openings.{credits_of}
use Rattle.sms_journal.specs.Schedules.{in_turn, schedule_of}
use Rattle.sms_journal.specs.ScheduleText.{events_text}
use Rattle.sms_journal.specs.Turns.{drawn_by}
use Rattle.sms_journal.proofs.LineLoops.{whole_written}
use Rattle.sms_journal.proofs.audit.schedule.schedule_lines.Goals as goal

pub returns-clause-text : goal.returns-clause-text
returns-clause-text c =
    let credits = credits_of c.args.openings.now in
    let parts = c.args.parts.now in
    let all = whole_written c.args.most credits parts c.in_ok-lines.lines c.write_top_ups.new.lines c.write_claim.new.lines c.write_parts.new.lines c.write_release.new.lines (drawn_by (in_turn parts)) c.in_ok-lines.ensures.next
    c.in_ok-write_top_ups.ensures c.in_ok-write_claim.ensures c.in_ok-write_parts.ensures c.in_ok-write_release.ensures in
    all.text ∙ ap (λ (t : List ℕ). t ++ events_text (schedule_of c.args.most credits parts)) c.in_ok-lines.ensures.text
