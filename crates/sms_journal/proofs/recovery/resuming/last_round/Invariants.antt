use Rattle.std.proofs.Common.{◌≡◌, List, take}
use Rattle.sms_message.specs.declared.message.Message.{Message}
use Rattle.sms_journal.specs.declared.notes.run_size.RunSize.{RunSize}
use Rattle.sms_journal.specs.Rounds.{first_round, going_after}
use Rattle.sms_journal.proofs.recovery.resuming.last_round.Given as goal

abbrev pub invariant-loop-note : goal.invariant-loop-note
invariant-loop-note l = (size : RunSize) (ms : List Message) → l.number ≡ (going_after (first_round size ms) (take l.note-index l.notes)).number
