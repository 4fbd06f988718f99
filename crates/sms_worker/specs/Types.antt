-- What became of messages, where receipts are the evidence: contracts see the octets of each.
use Rattle.std.specs.Prelude.{ℕ, List}
use Rattle.sms_message.specs.declared.ends.Attempt.{Attempt as AttemptBy}
use Rattle.sms_message.specs.declared.ends.SegmentEnd.{SegmentEnd as SegmentEndBy}
use Rattle.sms_message.specs.declared.ends.MessageResult.{MessageResult as MessageResultBy}
use Rattle.sms_message.specs.declared.ends.MessageEnd.{MessageEnd as MessageEndBy}

abbrev pub Attempt : Type 0
Attempt = AttemptBy (List ℕ)

abbrev pub SegmentEnd : Type 0
SegmentEnd = SegmentEndBy (List ℕ)

abbrev pub MessageResult : Type 0
MessageResult = MessageResultBy (List ℕ)

abbrev pub MessageEnd : Type 0
MessageEnd = MessageEndBy (List ℕ)
