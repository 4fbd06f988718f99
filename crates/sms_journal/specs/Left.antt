-- What the ends of messages leave for a further round: the messages of which nothing was begun, and the credits that are free.
use Rattle.std.specs.Prelude.{◌≡◌, ℕ, ◌+◌, if◌then◌else◌, Bool, true, false, List, [], ◌∷◌, map, string_bytes, take}
use Rattle.sms_core.specs.declared.row.Row.{Row}
use Rattle.sms_message.specs.declared.message.Message.{Message}
use Rattle.sms_message.specs.declared.ends.MessageEnd.{MessageEnd}
use Rattle.sms_message.specs.declared.ends.MessageRefusal.{MessageRefusal}
use Rattle.sms_message.specs.declared.ends.MessageRefusal.TheVariants.{BindClosed, OutOfMemory}
use Rattle.sms_message.specs.declared.ends.MessageResult.{MessageResult}
use Rattle.sms_message.specs.declared.ends.MessageResult.TheVariants as result

-- a refusal that says nothing of the message: its bind was closed to it, or memory was refused for it
abbrev pub is_passing : MessageRefusal → Bool
is_passing BindClosed = true
is_passing OutOfMemory = true
is_passing _ = false

-- nothing of the message was begun, and a further round may send it
abbrev pub is_left : {S : Type 0} → MessageResult S → Bool
is_left (result.Sent segments) = false
is_left (result.Refused refusal) = is_passing refusal

-- the message itself, where it is left
abbrev pub one : Bool → Message → List Message
one b m = if b then m ∷ [] else []

-- the messages that these ends leave, in their order
abbrev pub left_in : {S : Type 0} → List Message → List (MessageEnd S) → List Message
left_in [] es = []
left_in (m ∷ ms) [] = []
left_in (m ∷ ms) (e ∷ es) = if is_left e.result then m ∷ left_in ms es else left_in ms es

-- how many they are, and how many of them stand before the message at a place
abbrev pub count_left : {S : Type 0} → List (MessageEnd S) → ℕ
count_left [] = 0
count_left (e ∷ es) = (if is_left e.result then 1 else 0) + count_left es

abbrev pub left_before : {S : Type 0} → ℕ → List (MessageEnd S) → ℕ
left_before place es = count_left (take place es)

-- the credits that these rows leave, an account's in its place
abbrev pub free_in : List Row → List ℕ
free_in rows = map (λ row. row.free) rows

-- two messages say the same: one number, account, source, destination and text
pub record SaysSame (m n : Message) : Type 0 where
  pub index : n.index ≡ m.index
  pub account : n.account ≡ m.account
  pub source : string_bytes n.source ≡ string_bytes m.source
  pub dest : string_bytes n.dest ≡ string_bytes m.dest
  pub text : string_bytes n.text ≡ string_bytes m.text
