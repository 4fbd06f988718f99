-- What a worker of a sending promises of its messages, where what was sent is known by its octets.
use Rattle.std.specs.Prelude.{◌≡◌, ℕ, ◌+◌, ◌*◌, ◌<◌, List, length, Some, slice_get, string_bytes}
use Rattle.sms_core.specs.Rows.{reserved_of, charged_of, returned_of}
use Rattle.sms_book.specs.declared.amounts.Amounts.{Amounts}
use Rattle.sms_book.specs.Alone.{opening_at}
use Rattle.sms_book.specs.Name.{BookId}
use Rattle.sms_book.specs.Portions.{amounts_at}
use Rattle.sms_book.specs.Shares.{Share}
use Rattle.sms_book.specs.Tariffs.{cost_of}
use Rattle.sms_message.specs.declared.ends.MessageEnd.{MessageEnd as MessageEndBy}
use Rattle.sms_message.specs.declared.ends.MessageRefusal.TheVariants.{NoCredit}
use Rattle.sms_message.specs.declared.ends.MessageResult.{MessageResult as MessageResultBy}
use Rattle.sms_message.specs.declared.ends.MessageResult.TheVariants.{Refused}
use Rattle.sms_message.specs.declared.ends.SegmentEnd.{SegmentEnd as SegmentEndBy}
use Rattle.sms_message.specs.declared.message.Message.{Message}
use Rattle.sms_message.specs.declared.rules.Rules.{Rules}
use Rattle.sms_message.specs.EndOf.{IsSegmentEnd as IsSegmentEndBy, IsEndOf as IsEndOfBy}
use Rattle.sms_message.specs.Ends.{credits}
use Rattle.sms_message.specs.Submits.{SpellsSubmit, message_parts}

abbrev pub SegmentEnd : Type 0
SegmentEnd = SegmentEndBy (List ℕ)

abbrev pub MessageResult : Type 0
MessageResult = MessageResultBy (List ℕ)

abbrev pub MessageEnd : Type 0
MessageEnd = MessageEndBy (List ℕ)

-- the end of a segment, and that of a message
abbrev pub IsSegmentEnd : Rules → Message → ℕ → SegmentEnd → Type 0
IsSegmentEnd rules m p s = IsSegmentEndBy SpellsSubmit rules m p s

abbrev pub IsEndOf : Rules → ℕ → Message → MessageEnd → Type 0
IsEndOf rules accounts m e = IsEndOfBy SpellsSubmit rules accounts m e

-- what all parts of a message cost
abbrev pub price_of : Rules → Message → ℕ
price_of rules m = length (message_parts rules m) * cost_of rules.tariff (string_bytes m.dest)

-- a share of the accounts grew by the credits of these messages
abbrev pub Grew : List Amounts → List Amounts → List Message → List MessageEnd → Type 0
Grew old new ms es = (i : ℕ) → ((amounts_at new i).reserved ≡ (amounts_at old i).reserved + credits reserved_of i ms es)
    × ((amounts_at new i).charged ≡ (amounts_at old i).charged + credits charged_of i ms es)
    × ((amounts_at new i).returned ≡ (amounts_at old i).returned + credits returned_of i ms es)

-- the account of a message that is refused as one without credit began with fewer credits than the message costs and all that the share ever
-- reserved of the account
abbrev pub LackCredit : BookId → Rules → List Message → List MessageEnd → Share → Type 0
LackCredit book rules ms es share =
    (k a : ℕ) (m : Message) (e : MessageEnd) → slice_get ms k ≡ Some m → slice_get es k ≡ Some e → e.result ≡ Refused NoCredit → m.account ≡ Some a
    → opening_at book a < (amounts_at share.amounts a).reserved + (amounts_at share.amounts a).charged + (amounts_at share.amounts a).returned + price_of rules m
