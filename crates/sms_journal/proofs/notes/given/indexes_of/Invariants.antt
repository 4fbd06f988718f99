use Rattle.std.proofs.Common.{◌≡◌, take}
use Rattle.sms_journal.specs.Lawful.{indexes_of}
use Rattle.sms_journal.proofs.notes.given.indexes_of.Given as goal

abbrev pub invariant-loop-message : goal.invariant-loop-message
invariant-loop-message l = l.indexes.items ≡ indexes_of (take l.message-index l.messages)
