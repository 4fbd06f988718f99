-- What a worker's record says of its segments.
use Rattle.std.specs.Prelude.{◌≡◌, ℕ, ◌+◌, ◌<◌, ◌≤◌, ◌⊎◌, List, [], Some, slice_get, string_bytes}
use Rattle.std.specs.List.{AllByRecursion}
use Rattle.sms_core.specs.Numbers.{times}
use Rattle.sms_core.specs.Rows.{reserved_of, charged_of, returned_of}
use Rattle.sms_pdu.specs.declared.reply.Reply.{Reply}
use Rattle.sms_book.specs.declared.amounts.Amounts.{Amounts}
use Rattle.sms_book.specs.Portions.{amounts_at}
use Rattle.sms_book.specs.Tariffs.{cost_of}
use Rattle.sms_window.specs.declared.view.View.{View}
use Rattle.sms_window.specs.Drawing.{HasDrawn}
use Rattle.sms_message.specs.declared.message.Message.{Message}
use Rattle.sms_message.specs.declared.rules.Rules.{Rules}
use Rattle.sms_worker.specs.Types.{Attempt, SegmentEnd, MessageEnd}
use Rattle.sms_message.specs.Ends.{segment_at, total, credits, uses}
use Rattle.sms_message.specs.declared.user_data.UserData.{UserData}
use Rattle.sms_message.specs.Submits.{SpellsSubmit}
use Rattle.sms_message.specs.UserData.{message_data}
use Rattle.sms_message.specs.Results.{IsSentBy, IsSettled, IsWaiting}

-- the receipt's octets spell the submit_sm of the part with the attempt's number
abbrev pub IsSubmit : Rules → Message → ℕ → Attempt → Type 0
IsSubmit rules m p a = IsSentBy SpellsSubmit rules m p a

-- the reply stands in what was received behind the first so many
pub record HeardSince (before : ℕ) (received : List Reply) (r : Reply) : Type 0 where
  pub place : ℕ
  pub since : before ≤ place
  pub there : slice_get received place ≡ Some r

-- an answer has its attempt's number, and was received in this call
abbrev pub IsAnswered : ℕ → List Reply → Attempt → Type 0
IsAnswered before received a = (r : Reply) → a.reply ≡ Some r → (r.number ≡ a.number) × HeardSince before received r

pub record IsTold (rules : Rules) (before : ℕ) (received : List Reply) (m : Message) (p : ℕ) (s : SegmentEnd) : Type 0 where
  pub cost : s.cost ≡ cost_of rules.tariff (string_bytes m.dest)
  pub some : 0 < s.cost
  pub sent : AllByRecursion (IsSubmit rules m p) s.attempts
  pub answered : AllByRecursion (IsAnswered before received) s.attempts
  pub state : IsSettled rules.policy.attempts s ⊎ IsWaiting rules.policy.attempts s

abbrev pub AllTold : Rules → ℕ → List Reply → List Message → List MessageEnd → Type 0
AllTold rules before received ms es = (k p : ℕ) (m : Message) (s : SegmentEnd) → slice_get ms k ≡ Some m → segment_at es k p ≡ Some s → IsTold rules before received m p s

-- the seat drew some numbers, and no attempt has another number or one that another attempt has
pub record Drew (before after : View) (ms : List Message) (es : List MessageEnd) : Type 0 where
  pub drawn : List ℕ
  pub has : HasDrawn before drawn after
  pub used : (n : ℕ) → total (λ m s. uses n s) ms es ≤ times n drawn

-- the share grew by the sums over the ends
abbrev pub Grew : List Amounts → List Amounts → List Message → List MessageEnd → Type 0
Grew old new ms es = (i : ℕ) → ((amounts_at new i).reserved ≡ (amounts_at old i).reserved + credits reserved_of i ms es)
    × ((amounts_at new i).charged ≡ (amounts_at old i).charged + credits charged_of i ms es)
    × ((amounts_at new i).returned ≡ (amounts_at old i).returned + credits returned_of i ms es)

-- what is kept of the messages that were begun: all their user data, or nothing more
abbrev pub ArePending : Rules → List Message → List (List UserData) → Type 0
ArePending rules ms kept = (k : ℕ) (m : Message) (content : List UserData) → slice_get ms k ≡ Some m → slice_get kept k ≡ Some content → (content ≡ []) ⊎ (content ≡ message_data rules m)
