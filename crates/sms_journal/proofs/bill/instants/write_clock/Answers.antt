use Rattle.std.specs.Prelude.{codes, string_bytes}
use Rattle.std.proofs.lemmas.Result.{on_ok_weaker}
use Rattle.sms_journal.specs.Instants.{minute_text, second_text}
use Rattle.sms_journal.proofs.Joins.{three}
use Rattle.sms_journal.proofs.bill.instants.write_clock.Goals as goal

pub returns : goal.returns
returns c =
    on_ok_weaker c.write_second.result
    (three (string_bytes c.args.text.now) (string_bytes c.write_minute.new.text) (string_bytes c.write_mark.new.text) (string_bytes c.write_second.new.text) (minute_text c.args.ms) (codes ":") (second_text c.args.ms) c.in_ok-write_minute.ensures c.in_ok-write_mark.ensures)
    c.write_second.ensures
