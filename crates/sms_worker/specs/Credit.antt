-- What a worker's messages cost: those that it refuses for lack of credit, where its book has one share, and those that it begins, where its book is sealed.
use Rattle.std.specs.Prelude.{◌≡◌, ◌⊎◌, ℕ, ◌+◌, ◌*◌, ◌<◌, ◌≤◌, List, length, Some, slice_get, string_bytes, true}
use Rattle.sms_core.specs.declared.row.Row.{Row}
use Rattle.sms_core.specs.Limits.{most_topped}
use Rattle.sms_book.specs.declared.amounts.Amounts.{Amounts}
use Rattle.sms_book.specs.Alone.{opening_at}
use Rattle.sms_book.specs.Limits.{most_returned}
use Rattle.sms_book.specs.Name.{BookId}
use Rattle.sms_book.specs.Portions.{amounts_at, row_at, topped_at}
use Rattle.sms_book.specs.Shares.{Share}
use Rattle.sms_book.specs.Tariffs.{cost_of}
use Rattle.sms_message.specs.declared.message.Message.{Message}
use Rattle.sms_message.specs.declared.rules.Rules.{Rules}
use Rattle.sms_worker.specs.Types.{MessageEnd, SegmentEnd}
use Rattle.sms_message.specs.declared.ends.MessageRefusal.TheVariants.{NoCredit}
use Rattle.sms_message.specs.declared.ends.MessageResult.TheVariants.{Refused, Sent}
use Rattle.sms_message.specs.Submits.{message_parts}

-- what all parts of a message cost
abbrev pub price_of : Rules → Message → ℕ
price_of rules m = length (message_parts rules m) * cost_of rules.tariff (string_bytes m.dest)

-- n credits more than a share has of an account are too many: the account began with fewer than it has reserved and charged with them, or what it gave back and has reserved passes its bound with them
abbrev pub Lacks : ℕ → Amounts → ℕ → Type 0
Lacks opening a n = (opening < a.reserved + a.charged + n) ⊎ ((opening ≤ most_topped) × (most_returned < a.returned + a.reserved + n))

-- so it is with what the message costs
abbrev pub LacksFor : BookId → Rules → Share → Message → Type 0
LacksFor book rules share m = book.workers ≡ 1 → (a : ℕ) → m.account ≡ Some a → Lacks (opening_at book a) (amounts_at share.amounts a) (price_of rules m)

-- n credits of an account can be reserved: they are free, and what it gave back and has reserved keeps within its bound with them
abbrev pub CanReserve : List Row → ℕ → ℕ → Type 0
CanReserve rows account n = (account < length rows) × (n ≤ (row_at rows account).free) × ((row_at rows account).returned + (row_at rows account).reserved + n ≤ most_returned)

-- all that a share ever reserved of an account
abbrev pub ever : Amounts → ℕ
ever a = a.reserved + a.charged + a.returned

-- Where the book has one share, the account of a message that is refused for lack of credit began with fewer credits than the message costs and the share ever reserved of it
pub record LackCredit (book : BookId) (rules : Rules) (ms : List Message) (es : List MessageEnd) (share : Share) : Type 0 where
  pub each : book.workers ≡ 1 → (k a : ℕ) (m : Message) (e : MessageEnd) → slice_get ms k ≡ Some m → slice_get es k ≡ Some e → e.result ≡ Refused NoCredit → m.account ≡ Some a
      → opening_at book a < ever (amounts_at share.amounts a) + price_of rules m

-- a message was begun only where its account was opened with what all of its parts cost
abbrev pub IsCovered : List ℕ → Rules → Message → MessageEnd → Type 0
IsCovered opened rules m e = (segments : List SegmentEnd) (a : ℕ) → e.result ≡ Sent segments → m.account ≡ Some a → price_of rules m ≤ topped_at opened a

-- the credit of the messages so far: those that were refused for lack of it lack it, and in a sealed book those that were begun could be paid
pub record CreditStands (book : BookId) (rules : Rules) (ms : List Message) (es : List MessageEnd) (share : Share) : Type 0 where
  pub lacking : LackCredit book rules ms es share
  pub covered : book.sealed ≡ true → (k : ℕ) (m : Message) (e : MessageEnd) → slice_get ms k ≡ Some m → slice_get es k ≡ Some e → IsCovered book.opening rules m e
