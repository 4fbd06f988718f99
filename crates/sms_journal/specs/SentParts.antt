-- The parts of messages that were sent, as their ends have them.
use Rattle.std.specs.Prelude.{ℕ, List, [], ◌∷◌, ◌++◌, map, Option, Some, None}
use Rattle.sms_message.specs.declared.message.Message.{Message}
use Rattle.sms_message.specs.declared.ends.SegmentEnd.{SegmentEnd}
use Rattle.sms_message.specs.declared.ends.MessageEnd.{MessageEnd}
use Rattle.sms_message.specs.Ends.{segments_in}
use Rattle.sms_message.specs.Results.{answers}
use Rattle.sms_journal.specs.declared.audit.part.SentPart.{SentPart}

abbrev pub part_of : {S : Type 0} → ℕ → SegmentEnd S → SentPart
part_of account s = record { account = account; cost = s.cost; attempts = answers s.attempts }

-- those of a message, which its account pays
abbrev pub parts_of : {S : Type 0} → Option ℕ → List (SegmentEnd S) → List SentPart
parts_of None segments = []
parts_of (Some account) segments = map (λ s. part_of account s) segments

-- those of all messages
abbrev pub parts_sent : {S : Type 0} → List Message → List (MessageEnd S) → List SentPart
parts_sent [] es = []
parts_sent (m ∷ ms) [] = []
parts_sent (m ∷ ms) (e ∷ es) = parts_of m.account (segments_in e.result) ++ parts_sent ms es
