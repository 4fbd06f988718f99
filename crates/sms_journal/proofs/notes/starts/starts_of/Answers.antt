use Rattle.std.proofs.Common.{ap, sym, ◌∙◌, arith}
use Rattle.sms_journal.specs.Recovered.{or_else, start_in}
use Rattle.sms_journal.proofs.Firsts.{first_more}
use Rattle.sms_journal.proofs.notes.starts.starts_of.Goals as goal

pub loop-note-preserved : goal.loop-note-preserved
loop-note-preserved c = λ i.
    c.in_ok-keep_start.ensures i ∙ ap (λ o. or_else o (start_in i c.note-item.result)) (c.loop-note.invariant i)
    ∙ sym (first_more (start_in i) c.args.notes.now c.loop-note.note-index c.note-item.result (omega arith) c.note-item.is)
