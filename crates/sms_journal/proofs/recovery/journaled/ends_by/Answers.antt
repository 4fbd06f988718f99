use Rattle.std.proofs.Common.{rules}
use Rattle.sms_journal.proofs.Recoveries.{note_fault}
use Rattle.sms_journal.proofs.recovery.journaled.ends_by.Goals as goal

pub returns-in-BadNote-clause-refused : goal.returns-in-BadNote-clause-refused
returns-in-BadNote-clause-refused g c =
    note_fault c.args.rules.now c.args.size c.args.messages.now c.args.notes.now c.fault_at.result c.in-BadNote.place c.fault_at.ensures
    (c.checked_ends.ensures.faulty c.in-BadNote.place (search rules))
