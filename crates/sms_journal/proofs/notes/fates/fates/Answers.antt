use Rattle.std.proofs.Common.{ap, sym, ◌∙◌, arith}
use Rattle.sms_journal.specs.Recovered.{or_else, fate_in}
use Rattle.sms_journal.proofs.Firsts.{first_more}
use Rattle.sms_journal.proofs.notes.fates.fates.Goals as goal

pub loop-note-preserved : goal.loop-note-preserved
loop-note-preserved c = λ worker number.
    c.in_ok-keep_fate.ensures worker number
    ∙ ap (λ o. or_else o (fate_in worker number c.note-item.result)) (c.loop-note.invariant worker number)
    ∙ sym (first_more (fate_in worker number) c.args.notes.now c.loop-note.note-index c.note-item.result (omega arith) c.note-item.is)
