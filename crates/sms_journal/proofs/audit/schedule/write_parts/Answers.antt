use Rattle.std.proofs.lemmas.Result.{on_ok_weaker}
use Rattle.sms_journal.proofs.LineLoops.{turns_written}
use Rattle.sms_journal.proofs.audit.schedule.write_parts.Goals as goal

pub returns : goal.returns
returns c =
    on_ok_weaker c.write_turn-3.result
    (turns_written c.args.most c.args.parts.now c.args.lines.now c.write_turn.new.lines c.write_turn-2.new.lines c.write_turn-3.new.lines c.in_ok-write_turn.ensures c.in_ok-write_turn-2.ensures) c.write_turn-3.ensures
