use Rattle.sms_book.specs.Openings.{names_of}
use Rattle.sms_files.specs.MessageRows.{AreSaid}
use Rattle.sms_files.proofs.tables.message_rows.addressed.Given as goal

abbrev pub invariant-loop-row : goal.invariant-loop-row
invariant-loop-row l = AreSaid (names_of l.openings) 0 l.yielded l.messages.items
