use Rattle.std.proofs.Common.{ap, sym, ◌∙◌, ◌++◌, arith}
use Rattle.sms_files.proofs.Lists.{take_whole}
use Rattle.sms_journal.specs.Index.{request_about, requests_about}
use Rattle.sms_journal.proofs.Lists.{flat_more}
use Rattle.sms_journal.proofs.notes.grouping.groups.Goals as goal

pub loop-note-preserved : goal.loop-note-preserved
loop-note-preserved c = record {
  turn = c.in_ok-add_note.ensures.turn;
  kept = λ q.
      c.in_ok-add_note.ensures.added q ∙ ap (λ l. l ++ request_about q c.note-item.result) (c.loop-note.invariant.kept q)
      ∙ sym (flat_more (request_about q) c.args.notes.now c.loop-note.note-index c.note-item.result (omega arith) c.note-item.is);
}

pub returns : goal.returns
returns c = λ q. c.loop-note.invariant.kept q ∙ ap (λ ns. requests_about ns q) (take_whole c.args.notes.now c.loop-note.note-index (omega arith))
