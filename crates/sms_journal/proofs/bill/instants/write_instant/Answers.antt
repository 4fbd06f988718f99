use Rattle.std.proofs.Common.{◌≡◌, ◌∙◌, ◌++◌, ◌/◌, ◌%◌, ap}
use Rattle.std.specs.Prelude.{codes, string_bytes}
use Rattle.std.proofs.lemmas.Result.{on_ok_weaker}
use Rattle.sms_journal.specs.declared.bill.calendar.Date.{Date}
use Rattle.sms_journal.specs.Calendar.{date_of}
use Rattle.sms_journal.specs.Instants.{clock_text, date_text}
use Rattle.sms_journal.proofs.Joins.{four}
use Rattle.sms_journal.proofs.bill.instants.write_instant.Goals as goal

pub returns : goal.returns
returns c =
    let date : string_bytes c.write_date.new.text ≡ string_bytes c.args.text.now ++ date_text (date_of (c.args.time / 86400000)) =
    c.in_ok-write_date.ensures ∙ ap (λ (d : Date). string_bytes c.args.text.now ++ date_text d) c.date_of.ensures in
    on_ok_weaker c.write_mark-2.result
    (four (string_bytes c.args.text.now) (string_bytes c.write_date.new.text) (string_bytes c.write_mark.new.text) (string_bytes c.write_clock.new.text) (string_bytes c.write_mark-2.new.text) (date_text (date_of (c.args.time / 86400000))) (codes "T")
    (clock_text (c.args.time % 86400000)) (codes "Z") date c.in_ok-write_mark.ensures c.in_ok-write_clock.ensures)
    c.write_mark-2.ensures
