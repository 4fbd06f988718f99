use Rattle.std.proofs.Common.{arith}
use Rattle.sms_journal.specs.Turns.{is_of_turn}
use Rattle.sms_journal.proofs.LineLoops.{turn_more}
use Rattle.sms_journal.proofs.audit.schedule.write_turn.Goals as goal

pub loop-place-preserved : goal.loop-place-preserved
loop-place-preserved c =
    turn_more c.args.most (is_of_turn c.args.turn) c.args.parts.now c.loop-place.place c.index-parts-place.result c.args.lines.now c.loop-place.lines c.write_in_turn.new.lines _ _ (omega arith) c.index-parts-place.is
    c.loop-place.invariant c.in_ok-write_in_turn.ensures
