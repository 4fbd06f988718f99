use Rattle.std.proofs.Common.{take}
use Rattle.sms_journal.specs.Seen.{HasStarts}
use Rattle.sms_journal.proofs.notes.starts.starts_of.Given as goal

abbrev pub invariant-loop-note : goal.invariant-loop-note
invariant-loop-note l = HasStarts (take l.note-index l.notes) l.starts
