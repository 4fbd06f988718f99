use Rattle.std.proofs.Common.{ℕ, Option, sym, subst}
use Rattle.std.specs.Prelude.{IfErr, IfOk}
use Rattle.sms_journal.specs.Lines.{AreFaultyLines, AreNotes, IsJournalText}
use Rattle.sms_journal.proofs.AheadNotes.{fault_found, notes_found, others_found}
use Rattle.sms_journal.proofs.text.reader.begun_notes.Goals as goal

pub returns-in-Some-clause-faulty : goal.returns-in-Some-clause-faulty
returns-in-Some-clause-faulty c = λ text h. others_found c.args.files.now text c.args.read h c.in-Some.what c.in-Some.ensures

pub returns-in-Ok-clause-notes : goal.returns-in-Ok-clause-notes
returns-in-Ok-clause-notes c = λ text h.
    subst (λ (first : Option (ℕ × ℕ)). IsJournalText c.args.files.now text c.args.read.kind first c.in-Ok.notes.items) (sym c.first_in.ensures)
    (notes_found c.args.files.now text c.args.read h c.in_default.ensures c.in-Ok.notes.items (subst (λ read. IfOk read (λ notes. AreNotes h.behind notes.items)) c.in-Ok.is h.notes))

pub returns-in-Err-clause-faulty : goal.returns-in-Err-clause-faulty
returns-in-Err-clause-faulty c = λ text h.
    fault_found c.args.files.now text c.args.read h c.in_default.ensures c.in-Err.error (subst (λ read. IfErr read (AreFaultyLines h.behind)) c.in-Err.is h.faulty)
