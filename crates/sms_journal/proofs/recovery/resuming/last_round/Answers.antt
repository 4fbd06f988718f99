use Rattle.std.proofs.Common.{◌∙◌, arith}
use Rattle.sms_journal.specs.Rounds.{first_round}
use Rattle.sms_journal.proofs.Lists.{got_at}
use Rattle.sms_journal.proofs.Resumings.{number_more}
use Rattle.sms_journal.proofs.recovery.resuming.last_round.Goals as goal

pub loop-note-preserved : goal.loop-note-preserved
loop-note-preserved c size ms =
    c.number_by-number.ensures
    ∙ number_more (first_round size ms) c.args.notes.now c.loop-note.note-index c.loop-note.number c.note-item.result (got_at c.args.notes.now c.loop-note.note-index c.note-item.result (omega arith) c.note-item.is)
    (c.loop-note.invariant size ms)
