-- Where a segment stands that was sent, or whose turn it is.
use Rattle.std.proofs.Common.{◌≡◌, ℕ, ◌<◌, List, length, Some, None, inl, inr, ap, arith}
use Rattle.std.specs.Prelude.{slice_get}
use Rattle.sms_pdu.specs.declared.reply.Reply.{Reply}
use Rattle.sms_book.specs.Shares.{Share}
use Rattle.sms_window.specs.SeatState.{SeatState}
use Rattle.sms_worker.specs.Types.{MessageEnd, MessageResult, SegmentEnd}
use Rattle.sms_message.specs.declared.ends.MessageResult.TheVariants.{Sent, Refused as NotSent}
use Rattle.sms_message.specs.declared.message.Message.{Message}
use Rattle.sms_worker.specs.declared.state.open.Open.{Open}
use Rattle.sms_worker.specs.declared.state.open.SegmentPlace.{SegmentPlace}
use Rattle.sms_message.specs.declared.user_data.UserData.{UserData}
use Rattle.sms_message.specs.declared.rules.Rules.{Rules}
use Rattle.sms_message.specs.Ends.{segment_at, segments_in}
use Rattle.sms_worker.specs.Keeps.{Keeps}
use Rattle.sms_worker.specs.Rising.{HasTurn, WasSent}
use Rattle.sms_worker.specs.Start.{Start}
use Rattle.sms_message.specs.Submits.{HasAddresses}
use Rattle.sms_message.specs.Results.{AreEnds, IsResultOf}
use Rattle.sms_worker.proofs.EndLemmas.{end_at, get_low}

sent_low : (es : List MessageEnd) (place : SegmentPlace) → WasSent es place → place.message < length es
sent_low es place (a, is) = let e = end_at es place.message place.part is.segment is.there in get_low es place.message e.0 e.1

turn_low : (es : List MessageEnd) (next : ℕ) (place : SegmentPlace) → HasTurn es next place → place.message < length es
turn_low es next place turn = elim turn [ inl sent ↦ sent_low es place sent | inr h ↦ (let last = h.last in omega arith) ]

pub sent_is_there : (es : List MessageEnd) (place : SegmentPlace) → WasSent es place → segment_at es place.message place.part ≡ None → ⊥
sent_is_there es place (a, is) none = let there = is.there in absurd (cc)

-- a message that has a segment has good addresses
module _ (rules : Rules) (accounts : ℕ) (ms : List Message) (es : List MessageEnd) (k p : ℕ) (m : Message) (s : SegmentEnd) where
  of_result : (r : MessageResult) → IsResultOf rules accounts m r → slice_get (segments_in r) p ≡ Some s → HasAddresses m
  of_result (Sent segments) has at = has.addresses
  of_result (NotSent refusal) is at = absurd (cc)

  pub has_addresses : AreEnds rules accounts ms es → slice_get ms k ≡ Some m → segment_at es k p ≡ Some s → HasAddresses m
  has_addresses shape there at =
      let e = end_at es k p s at in
      of_result e.0.result (shape.each k m e.0 there e.1).1 e.2

-- it is one of a message that was begun, whose parts may be kept still
module _ (start : Start) (ms : List Message) (es : List MessageEnd) (pending : List (List UserData)) (os : List Open) (seat : SeatState) (share : Share) (replies : List Reply) (place : SegmentPlace) (keeps : Keeps start ms es pending os seat share replies) where
  begun_low : place.message < length es → place.message < length ms
  begun_low low = let within = keeps.shape.within in let same = ap length keeps.messages in omega arith

  pub sent_message : WasSent es place → place.message < length ms
  sent_message sent = begun_low (sent_low es place sent)

  pub turn_message : (next : ℕ) → HasTurn es next place → place.message < length ms
  turn_message next turn = begun_low (turn_low es next place turn)

  pub turn_kept : (next : ℕ) → HasTurn es next place → place.message < length pending
  turn_kept next turn = let low = turn_low es next place turn in let long = keeps.pending_long in omega arith
