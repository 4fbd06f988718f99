-- A message and its end, for the whole of a call, where receipts are the evidence.
use Rattle.std.specs.Prelude.{ℕ}
use Rattle.sms_message.specs.declared.message.Message.{Message}
use Rattle.sms_message.specs.declared.rules.Rules.{Rules}
use Rattle.sms_message.specs.Submits.{SpellsSubmit}
use Rattle.sms_message.specs.EndOf.{IsSegmentEnd as IsSegmentEndBy, IsEndOf as IsEndOfBy}
use Rattle.sms_worker.specs.Types.{SegmentEnd, MessageEnd}

abbrev pub IsSegmentEnd : Rules → Message → ℕ → SegmentEnd → Type 0
IsSegmentEnd rules m p s = IsSegmentEndBy SpellsSubmit rules m p s

abbrev pub IsEndOf : Rules → ℕ → Message → MessageEnd → Type 0
IsEndOf rules accounts m e = IsEndOfBy SpellsSubmit rules accounts m e
