-- What the steps on one segment end do.
use Rattle.std.specs.Prelude.{◌≡◌, ℕ, ◌+◌, ◌≤◌, ◌⊎◌, List, [], ◌∷◌, ◌++◌, ◌-◌, length, slice_get, Option, Some, None, Result, Ok, Err}
use Rattle.sms_pdu.specs.declared.reply.Reply.{Reply}
use Rattle.sms_segment.specs.declared.part.Part.{Part}
use Rattle.sms_session.specs.declared.policy.Decision.{Decision}
use Rattle.sms_session.specs.declared.policy.Decision.TheVariants.{Charge, RetryAfter, Refuse}
use Rattle.sms_window.specs.declared.view.View.{View}
use Rattle.sms_window.specs.Drawing.{HasDrawn}
use Rattle.sms_window.specs.Seats.{met_with, used_up}
use Rattle.sms_book.specs.Shares.{Share, changed}
use Rattle.sms_book.specs.Money.{moved_amounts}
use Rattle.sms_book.specs.declared.money.Move.{Move}
use Rattle.sms_book.specs.declared.money.Move.TheVariants as moves
use Rattle.sms_message.specs.declared.message.Message.{Message}
use Rattle.sms_message.specs.declared.rules.Rules.{Rules}
use Rattle.sms_message.specs.declared.ends.Outcome.{Outcome}
use Rattle.sms_message.specs.declared.ends.Outcome.TheVariants.{Charged, Refused, Unanswered, Unsent}
use Rattle.sms_worker.specs.Types.{Attempt, SegmentEnd, MessageEnd}
use Rattle.sms_worker.specs.declared.steps.attempt.TrySend.{TrySend}
use Rattle.sms_worker.specs.declared.steps.attempt.TrySend.TheVariants.{Sent, Retry, GiveUp}
use Rattle.sms_worker.specs.declared.steps.attempt.Number.{Number}
use Rattle.sms_worker.specs.declared.steps.attempt.Number.TheVariants.{Drawn, UsedUp, Contended}
use Rattle.sms_worker.specs.declared.steps.give_up.GiveUpReason.{GiveUpReason}
use Rattle.sms_worker.specs.declared.steps.give_up.GiveUpReason.TheVariants as denied
use Rattle.sms_worker.specs.declared.steps.give_up.GiveUpReason.TheVariants.{Done, Kept, Line, Memory}
use Rattle.sms_worker.specs.declared.steps.give_up.NotHanded.{NotHanded}
use Rattle.sms_worker.specs.declared.steps.give_up.NotHanded.TheVariants.{Broken, Busy}
use Rattle.sms_worker.specs.declared.steps.retry_later.Drawing.{Drawing}
use Rattle.sms_worker.specs.declared.steps.retry_later.Drawing.TheVariants as drawing
use Rattle.sms_worker.specs.declared.steps.retry_later.RetryLater.{RetryLater}
use Rattle.sms_worker.specs.declared.steps.retry_later.RetryLater.TheVariants.{Gate, Window, Numbers}
use Rattle.sms_worker.specs.declared.state.open.Open.{Open}
use Rattle.sms_worker.specs.declared.state.open.SegmentPlace.{SegmentPlace}
use Rattle.sms_worker.specs.Limits.{most_draws}
use Rattle.sms_message.specs.Submits.{SpellsSubmit}
use Rattle.sms_message.specs.Ends.{segment_at, put}
use Rattle.sms_message.specs.Results.{IsSettled, IsWaiting}

-- the last attempt had no answer and gets this one
pub record Hears (old : SegmentEnd) (reply : Reply) (new : SegmentEnd) : Type 0 where
  pub front : List Attempt
  pub last : Attempt
  pub before : old.attempts ≡ front ++ last ∷ []
  pub number : reply.number ≡ last.number
  pub silent : last.reply ≡ None
  pub open_yet : old.outcome ≡ Unanswered
  pub after : new ≡ record old { attempts = front ++ record last { reply = Some reply } ∷ [] }

-- the last of the attempts had no answer and gets this one
pub record Records (old : List Attempt) (reply : Reply) (new : List Attempt) : Type 0 where
  pub front : List Attempt
  pub last : Attempt
  pub before : old ≡ front ++ last ∷ []
  pub number : reply.number ≡ last.number
  pub silent : last.reply ≡ None
  pub after : new ≡ front ++ record last { reply = Some reply } ∷ []

-- the last of the attempts waits for the answer with this reply's number
abbrev pub Awaits : List Attempt → Reply → Type 0
Awaits attempts reply = (a : Attempt) × (slice_get attempts (length attempts - 1) ≡ Some a) × (a.number ≡ reply.number) × (a.reply ≡ None)

-- so does that of the segment
abbrev pub Expects : SegmentEnd → Reply → Type 0
Expects s reply = Awaits s.attempts reply

-- that of the segment at the place does
abbrev pub ExpectsAt : List MessageEnd → SegmentPlace → Reply → Type 0
ExpectsAt es place reply = (s : SegmentEnd) × (segment_at es place.message place.part ≡ Some s) × Expects s reply

-- what the segment's outcome then has to be
abbrev pub outcome_after : Decision → Outcome
outcome_after Charge = Charged
outcome_after Refuse = Refused
outcome_after (RetryAfter ms) = Unanswered

-- the segment at the place has so many attempts then, and that outcome; the others are as they were
pub record SettlesTo (old : List MessageEnd) (place : SegmentPlace) (attempts : ℕ) (decision : Decision) (new : List MessageEnd) : Type 0 where
  pub segment : SegmentEnd
  pub now : new ≡ put old place.message place.part segment
  pub count : attempts ≡ length segment.attempts
  pub outcome : segment.outcome ≡ outcome_after decision

abbrev pub with_outcome : Outcome → SegmentEnd → SegmentEnd
with_outcome outcome s = record s { outcome = outcome }

pub record Answers (most : ℕ) (old : SegmentEnd) (reply : Reply) (decision : Decision) (new : SegmentEnd) : Type 0 where
  pub hears : Hears old reply new
  -- with that outcome it is settled, or waits to be sent again
  pub state : IsSettled most (with_outcome (outcome_after decision) new) ⊎ IsWaiting most (with_outcome (outcome_after decision) new)

-- what draws did to the seat
abbrev pub Draws : View → Number → View → Type 0
Draws v (Drawn n) w = HasDrawn v (n ∷ []) w
Draws v UsedUp w = HasDrawn v [] w
Draws v Contended w = HasDrawn v [] w

abbrev pub number_of : Drawing → Number
number_of (drawing.Drawn n) = Drawn n
number_of (drawing.UsedUp _) = UsedUp
number_of (drawing.Contended _) = Contended

-- what kept a segment from being sent now: the gate, for which nothing was done; or the word in which a slot was looked for;
-- or that in each try to draw a number another seat had drawn one
abbrev pub HoldsBack : RetryLater → View → View → Type 0
HoldsBack (Gate evidence) v w = w ≡ v
HoldsBack (Window evidence) v w = w ≡ met_with v evidence.found
HoldsBack (Numbers evidence) v w = v.seen + most_draws ≤ w.seen

-- the number of a frame that wasn't handed to the wire
abbrev pub number_unsent : NotHanded → ℕ
number_unsent (Broken evidence) = evidence.number
number_unsent (Busy evidence) = evidence.number

-- a frame wasn't handed to the wire since the wire was broken
abbrev pub MetBroken : {X : Type 0} → Result X NotHanded → Type 0
MetBroken (Ok x) = ⊥
MetBroken (Err (Broken evidence)) = Unit {0}
MetBroken (Err (Busy evidence)) = ⊥

-- why a segment is given up that waits to be sent: all numbers are used up; or this one was drawn for it, and not sent
abbrev pub IsReason : GiveUpReason → View → View → Type 0
IsReason (Kept evidence) v w = ⊥
IsReason (Done evidence) v w = ⊥
IsReason (denied.Numbers all) v w = HasDrawn v [] w × (w.seen ≡ used_up)
IsReason (Memory evidence) v w = HasDrawn v (evidence.number ∷ []) w
IsReason (denied.Gate evidence) v w = HasDrawn v (evidence.number ∷ []) w
IsReason (Line evidence) v w = HasDrawn v (number_unsent evidence ∷ []) w

-- what a try to send does to the seat and to the list of attempts
abbrev pub Tries : Rules → Message → Part → View → List Attempt → TrySend → View → List Attempt → Type 0
Tries rules m part v old (Sent n) w new =
    HasDrawn v (n ∷ []) w × ((octets : List ℕ) × (new ≡ old ++ record { number = n; sent = octets; reply = None } ∷ []) × SpellsSubmit rules m part n octets)
Tries rules m part v old (Retry held) w new = (HasDrawn v [] w × HoldsBack held v w) × (new ≡ old)
Tries rules m part v old (GiveUp why) w new = IsReason why v w × (new ≡ old)

-- the request that was sent is open, behind the others
abbrev pub Opens : TrySend → SegmentPlace → List Open → List Open → Type 0
Opens (Sent n) place old new = (o : Open) × (new ≡ old ++ o ∷ []) × (o.number ≡ n) × (o.place ≡ place)
Opens (Retry held) place old new = new ≡ old
Opens (GiveUp why) place old new = new ≡ old

-- where the credits go that were reserved for a segment; without an answer they stay reserved
abbrev pub move_of : Outcome → Option Move
move_of Charged = Some moves.Charge
move_of Refused = Some moves.GiveBack
move_of Unsent = Some moves.GiveBack
move_of Unanswered = None

-- the share after that; nothing moves where there is no account
abbrev pub moved_to : Option ℕ → Option Move → ℕ → Share → Share
moved_to None move cost s = s
moved_to (Some account) None cost s = s
moved_to (Some account) (Some move) cost s = changed s account (moved_amounts move cost)

abbrev pub settled_to : Outcome → Option ℕ → ℕ → Share → Share
settled_to outcome account cost s = moved_to account (move_of outcome) cost s

-- a segment end without its attempts
abbrev pub emptied : SegmentEnd → SegmentEnd
emptied s = record s { attempts = [] }

-- a segment end is out of its place, where its cost and its outcome stand meanwhile
abbrev pub Takes : List MessageEnd → ℕ → ℕ → SegmentEnd → List MessageEnd → Type 0
Takes old k p s new = (segment_at old k p ≡ Some s) × (new ≡ put old k p (emptied s))

-- a segment that is given up was never sent, or was refused for now by its last answer
abbrev pub given_outcome : List Attempt → Outcome
given_outcome [] = Unsent
given_outcome (a ∷ attempts) = Refused

-- a waiting segment is given up
pub record GivesUp (old new : SegmentEnd) : Type 0 where
  pub cost : new.cost ≡ old.cost
  pub attempts : new.attempts ≡ old.attempts
  pub outcome : new.outcome ≡ given_outcome old.attempts
  pub state : (most : ℕ) → IsWaiting most old → IsSettled most new
