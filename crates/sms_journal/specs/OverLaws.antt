-- What holds of the messages, ends and sums of a run of several rounds.
use Rattle.std.specs.Prelude.{◌≡◌, ℕ, ◌+◌, if◌then◌else◌, List, Some, true, length, slice_get}
use Rattle.std.specs.List.{AllZip}
use Rattle.sms_core.specs.declared.request.Phase.{Phase}
use Rattle.sms_message.specs.Ends.{credits, segment_at}
use Rattle.sms_message.specs.declared.ends.MessageEnd.{MessageEnd}
use Rattle.sms_message.specs.declared.message.Message.{Message}
use Rattle.sms_journal.specs.Left.{SaysSame, count_left, is_left, left_before, left_in}
use Rattle.sms_journal.specs.Over.{ends_over}

-- there is an end for each message, and one of the round for each that was left
pub record AreOfRound {S : Type 0} (ms : List Message) (es later : List (MessageEnd S)) : Type 0 where
  pub each : length es ≡ length ms
  pub left : length later ≡ count_left es

-- what the round leaves of the messages that it was given is what the run leaves after it
abbrev pub LeftAfterRound : Type 0 → Type 0
LeftAfterRound S = (ms : List Message) (es later : List (MessageEnd S)) → AreOfRound ms es later → left_in ms (ends_over es later) ≡ left_in (left_in ms es) later

-- there is an end for each message after it
abbrev pub EachAfterRound : Type 0 → Type 0
EachAfterRound S = (ms : List Message) (es later : List (MessageEnd S)) → AreOfRound ms es later → length (ends_over es later) ≡ length ms

-- what the segments of all messages add to an account is what they added before the round, and what they added in it
abbrev pub SumsAdd : Type 0 → Type 0
SumsAdd S =
    (f : Phase → ℕ → ℕ) (i : ℕ) (ms : List Message) (es later : List (MessageEnd S)) → AreOfRound ms es later → credits f i ms (ends_over es later) ≡ credits f i ms es + credits f i (left_in ms es) later

-- messages that say the same have the same sums
abbrev pub CopiesAgree : Type 0 → Type 0
CopiesAgree S = (f : Phase → ℕ → ℕ) (i : ℕ) (ms copies : List Message) (es : List (MessageEnd S)) → AllZip SaysSame ms copies → credits f i copies es ≡ credits f i ms es

-- a segment of a message that was left is that which the round made of it, at the message's place among those that were left; of another it is what it was
abbrev pub SegmentsOver : Type 0 → Type 0
SegmentsOver S =
    (es later : List (MessageEnd S)) (message part : ℕ) (e : MessageEnd S) → slice_get es message ≡ Some e → length later ≡ count_left es
    → segment_at (ends_over es later) message part ≡ (if is_left e.result then segment_at later (left_before message es) part else segment_at es message part)

-- no two messages that were left have one place among them
abbrev pub PlacesAreApart : Type 0 → Type 0
PlacesAreApart S =
    (es : List (MessageEnd S)) (message other : ℕ) (e o : MessageEnd S) → slice_get es message ≡ Some e → slice_get es other ≡ Some o → is_left e.result ≡ true → is_left o.result ≡ true
    → left_before message es ≡ left_before other es → message ≡ other
