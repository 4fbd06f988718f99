use Rattle.std.proofs.Common.{◌≡◌, List, take}
use Rattle.sms_journal.specs.declared.notes.note.Note.{Note}
use Rattle.sms_journal.specs.Rounds.{left_after}
use Rattle.sms_journal.specs.Seen.{HasStarts}
use Rattle.sms_journal.proofs.notes.starts.left_after.Given as goal

abbrev pub invariant-loop-index : goal.invariant-loop-index
invariant-loop-index l = (notes : List Note) → HasStarts notes l.starts → l.left.items ≡ left_after notes (take l.index-index l.given)
