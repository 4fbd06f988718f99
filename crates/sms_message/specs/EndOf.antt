-- A message and its end, for the whole of a call. It says nothing of other messages, so that it holds of lists that are dealt out and put together again.
use Rattle.std.specs.Prelude.{◌≡◌, ℕ, Some, slice_get, string_bytes}
use Rattle.std.specs.List.{AllByRecursion}
use Rattle.sms_book.specs.Tariffs.{cost_of}
use Rattle.sms_pdu.specs.declared.reply.Reply.{Reply}
use Rattle.sms_message.specs.declared.message.Message.{Message}
use Rattle.sms_message.specs.declared.rules.Rules.{Rules}
use Rattle.sms_message.specs.declared.ends.Attempt.{Attempt}
use Rattle.sms_message.specs.declared.ends.SegmentEnd.{SegmentEnd}
use Rattle.sms_message.specs.declared.ends.MessageEnd.{MessageEnd}
use Rattle.sms_message.specs.Ends.{segments_in}
use Rattle.sms_message.specs.Results.{Says, IsSentBy, IsResultOf, IsSettled}

-- an answer has its attempt's number
abbrev pub HasItsNumber : {S : Type 0} → Attempt S → Type 0
HasItsNumber a = (r : Reply) → a.reply ≡ Some r → r.number ≡ a.number

-- the end of part p: its cost, its receipts, its answers, and its outcome
pub record IsSegmentEnd {S : Type 0} (says : Says S) (rules : Rules) (m : Message) (p : ℕ) (s : SegmentEnd S) : Type 0 where
  pub cost : s.cost ≡ cost_of rules.tariff (string_bytes m.dest)
  pub sent : AllByRecursion (IsSentBy says rules m p) s.attempts
  pub answered : AllByRecursion HasItsNumber s.attempts
  pub settled : IsSettled rules.policy.attempts s

pub record IsEndOf {S : Type 0} (says : Says S) (rules : Rules) (accounts : ℕ) (m : Message) (e : MessageEnd S) : Type 0 where
  pub index : e.index ≡ m.index
  pub result : IsResultOf rules accounts m e.result
  pub segments : (p : ℕ) (s : SegmentEnd S) → slice_get (segments_in e.result) p ≡ Some s → IsSegmentEnd says rules m p s
