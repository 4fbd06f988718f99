-- The changes of one attempt as parts of the core's events. What a worker, its window, its slot, its ring and the book have
-- of one segment stands for what a world has of one request; each change of it is the same change as an event's that is
-- done. One thing is no event: a segment whose slot is answered at the end of a call, and which is left without its answer.
use Rattle.std.specs.Prelude.{◌≡◌, ℕ, ◌<◌, ◌≤◌, Bool, false, List, [], ◌∷◌, ◌++◌, length, Option, Some, None}
use Rattle.sms_core.specs.declared.event.Event.{Event}
use Rattle.sms_core.specs.declared.event.Event.TheVariants.{Claim, Post, Respond, Settle, Expire, Discard, Release}
use Rattle.sms_core.specs.declared.event.Step.TheVariants.{Done}
use Rattle.sms_core.specs.declared.mark.Mark.{Mark}
use Rattle.sms_core.specs.declared.mark.Mark.TheVariants.{Empty as MarkEmpty, Open as MarkOpen, Replied}
use Rattle.sms_core.specs.declared.request.Phase.{Phase}
use Rattle.sms_core.specs.declared.request.Phase.TheVariants as phases
use Rattle.sms_core.specs.declared.request.RequestState.{RequestState}
use Rattle.sms_core.specs.declared.row.Row.{Row}
use Rattle.sms_core.specs.Histories.{Moment, FromStart}
use Rattle.sms_core.specs.Holds.{Claims, Releases}
use Rattle.sms_core.specs.Limits.{most_slots, top_number}
use Rattle.sms_core.specs.Numbers.{Draws}
use Rattle.sms_core.specs.Renaming.{AreWorkers}
use Rattle.sms_core.specs.State.{State, rows, request_of, mark_of, times_held}
use Rattle.sms_core.specs.StepLaws.{DrawsNumber}
use Rattle.sms_core.specs.Steps.{Steps}
use Rattle.sms_pdu.specs.declared.reply.Reply.{Reply}
use Rattle.sms_session.specs.Decisions.{decided}
use Rattle.sms_slot.specs.declared.slot.Slot.{Slot}
use Rattle.sms_slot.specs.declared.slot.Slot.TheVariants.{Empty, Waiting, Answered}
use Rattle.sms_slot.specs.declared.slot.SlotDelivery.TheVariants.{Matched}
use Rattle.sms_slot.specs.declared.slot.Taken.TheVariants.{Got}
use Rattle.sms_slot.specs.declared.slot.Expired.TheVariants.{Done as IsExpired}
use Rattle.sms_slot.specs.Slot as slots
use Rattle.sms_book.specs.declared.amounts.Amounts.{Amounts}
use Rattle.sms_book.specs.declared.money.Move.{Move}
use Rattle.sms_book.specs.Money.{moved_row, moved_amounts}
use Rattle.sms_book.specs.Portions.{of_worker, of_row}
use Rattle.sms_book.specs.Sums.{MovesBy}
use Rattle.sms_message.specs.declared.ends.Outcome.{Outcome}
use Rattle.sms_message.specs.declared.ends.Outcome.TheVariants.{Charged, Refused, Unanswered, Unsent}
use Rattle.sms_worker.specs.Types.{SegmentEnd}
use Rattle.sms_worker.specs.Steps.{Answers, GivesUp, move_of, outcome_after, with_outcome}
use Rattle.sms_message.specs.Results.{IsSettled, IsWaiting}

-- which request a segment is, and who sends it
pub record Sender : Type 0 where
  -- the worker that each seat is, and the seats that are none
  pub name : ℕ → ℕ
  pub is_out : ℕ → Bool
  pub seat : ℕ
  pub slot : ℕ
  pub request : ℕ
  pub account : ℕ
  -- how often it may be sent
  pub most : ℕ

-- what there is of it
pub record Parts : Type 0 where
  -- the window: which seat has which slot, what the sender's seat drew, and the next number
  pub pairs : List (ℕ × ℕ)
  pub numbers : List ℕ
  pub next : ℕ
  -- the slot, and the answer that went into the worker's ring when it came
  pub slot : Slot
  pub answer : Option Reply
  -- the account's row in the book, and what the worker's share has of the account
  pub row : Row
  pub amounts : Amounts
  pub segment : SegmentEnd

-- the mark has this answer, which came in the ring
pub record HasReply (request number : ℕ) (answer : Option Reply) (mark : Mark) : Type 0 where
  pub reply : Reply
  pub came : answer ≡ Some reply
  pub is_numbered : reply.number ≡ number
  pub marked : mark ≡ Replied request number reply.status reply.nack

-- the slot has this mark: where it is answered, the answer is in the ring
abbrev pub HasMark : ℕ → Slot → Option Reply → Mark → Type 0
HasMark request Empty answer mark = mark ≡ MarkEmpty
HasMark request (Waiting worker number) answer mark = mark ≡ MarkOpen request number
HasMark request (Answered worker number) answer mark = HasReply request number answer mark

-- The segment end has this phase as a request. One without an answer has the outcome Unanswered from when it is sent
abbrev pub HasPhase : ℕ → SegmentEnd → Phase → Type 0
HasPhase most s phases.Ready = IsWaiting most s
HasPhase most s phases.Open = IsSettled most s × (s.outcome ≡ Unanswered)
HasPhase most s phases.Charged = IsSettled most s × (s.outcome ≡ Charged)
HasPhase most s phases.Refused = IsSettled most s × (s.outcome ≡ Refused)
HasPhase most s phases.Unanswered = IsSettled most s × (s.outcome ≡ Unanswered)
HasPhase most s phases.Unsent = IsSettled most s × (s.outcome ≡ Unsent)

-- the parts are the world's
pub record StandFor (x : Sender) (p : Parts) (w : State) : Type 0 where
  pub most : w.attempts ≡ x.most
  pub seats : AreWorkers x.name x.is_out p.pairs w
  pub next : p.next ≡ w.next
  pub mark : HasMark x.request p.slot p.answer (mark_of w x.slot)
  pub row : rows w x.account ≡ Some p.row
  pub state : RequestState
  pub known : request_of w x.request ≡ Some state
  pub account : state.account ≡ x.account
  pub cost : state.cost ≡ p.segment.cost
  pub attempts : state.attempts ≡ length p.segment.attempts
  pub phase : HasPhase x.most p.segment state.phase

-- the seat is a worker's, and has the slot
abbrev pub HasSlot : Sender → Parts → Type 0
HasSlot x p = (x.is_out x.seat ≡ false) × (1 ≤ times_held x.seat x.slot p.pairs)

-- the credits of the segment are reserved, in the share and so in the row
abbrev pub AreReserved : Parts → Type 0
AreReserved p = (p.segment.cost ≤ p.amounts.reserved) × (p.amounts.reserved ≤ p.row.reserved)

-- what a move does to the account's row, and to what the share has of it
abbrev pub row_moved : Option Move → ℕ → Row → Row
row_moved None cost r = r
row_moved (Some move) cost r = moved_row move cost r

abbrev pub amounts_moved : Option Move → ℕ → Amounts → Amounts
amounts_moved None cost a = a
amounts_moved (Some move) cost a = moved_amounts move cost a

-- and what an outcome does
abbrev pub row_settled : Outcome → ℕ → Row → Row
row_settled outcome cost r = row_moved (move_of outcome) cost r

abbrev pub amounts_settled : Outcome → ℕ → Amounts → Amounts
amounts_settled outcome cost a = amounts_moved (move_of outcome) cost a

abbrev pub with_credits : Outcome → Parts → Parts
with_credits outcome p = record p { row = row_settled outcome p.segment.cost p.row; amounts = amounts_settled outcome p.segment.cost p.amounts }

-- the changes

-- the seat claims the slot, in which nothing is
pub record ClaimsSlot (x : Sender) (p q : Parts) : Type 0 where
  pub worker : x.is_out x.seat ≡ false
  pub inside : x.slot < most_slots
  pub empty : p.slot ≡ Empty
  pub claims : Claims p.pairs x.seat x.slot q.pairs
  pub rest : q ≡ record p { pairs = q.pairs }

-- the seat draws the next number, the slot waits with it, and the attempt that was sent is listed
pub record Sends (x : Sender) (p q : Parts) : Type 0 where
  pub held : HasSlot x p
  pub empty : p.slot ≡ Empty
  pub waits : IsWaiting x.most p.segment
  pub draws : Draws p.numbers p.next q.numbers q.next
  pub lawful : p.next ≤ top_number
  pub place : ℕ
  pub sent : List ℕ
  pub rest : q ≡ record p {
    numbers = q.numbers;
    next = q.next;
    slot = Waiting place p.next;
    segment = record p.segment { attempts = p.segment.attempts ++ record { number = p.next; sent = sent; reply = None } ∷ [] };
  }

-- an answer with its number comes, and goes into the worker's ring
pub record IsAnsweredBy (reply : Reply) (p q : Parts) : Type 0 where
  pub worker : ℕ
  pub answers : slots.Answers reply p.slot (Matched worker) q.slot
  pub rest : q ≡ record p { slot = q.slot; answer = Some reply }

-- the answer is taken out of the ring and decides the segment, and its credits move by that
pub record IsDecided (x : Sender) (p q : Parts) : Type 0 where
  pub held : HasSlot x p
  pub reserved : AreReserved p
  pub reply : Reply
  pub came : p.answer ≡ Some reply
  pub takes : slots.Takes reply.number p.slot Got q.slot
  pub base : ℕ
  pub answered : SegmentEnd
  pub answers : Answers x.most p.segment reply (decided reply (length p.segment.attempts) x.most base) answered
  pub rest : q ≡ record (with_credits (outcome_after (decided reply (length p.segment.attempts) x.most base)) p) {
    slot = q.slot;
    answer = None;
    segment = with_outcome (outcome_after (decided reply (length p.segment.attempts) x.most base)) answered;
  }

-- nobody waits for the answer any more
pub record Expires (x : Sender) (p q : Parts) : Type 0 where
  pub held : HasSlot x p
  pub number : ℕ
  pub expires : slots.Expires number p.slot IsExpired q.slot
  pub rest : q ≡ record p { slot = q.slot }

-- a segment that waits is given up, and its credits are given back
pub record IsGivenUp (x : Sender) (p q : Parts) : Type 0 where
  pub reserved : AreReserved p
  pub waits : IsWaiting x.most p.segment
  pub given : GivesUp p.segment q.segment
  pub rest : q ≡ record (with_credits q.segment.outcome p) { segment = q.segment }

-- the seat releases the slot, in which nothing is
pub record ReleasesSlot (x : Sender) (p q : Parts) : Type 0 where
  pub worker : x.is_out x.seat ≡ false
  pub empty : p.slot ≡ Empty
  pub releases : Releases p.pairs x.seat x.slot q.pairs
  pub rest : q ≡ record p { pairs = q.pairs }

-- the slot is answered and the answer wasn't seen: it is taken without that, and the segment stays without an answer
pub record IsLeft (x : Sender) (p q : Parts) : Type 0 where
  pub number : ℕ
  pub takes : slots.Takes number p.slot Got q.slot
  pub settled : IsSettled x.most p.segment
  pub unanswered : p.segment.outcome ≡ Unanswered
  pub rest : q ≡ record p { slot = q.slot; answer = None }

-- the event is done, and leaves a world for which the changed parts stand
pub record IsEvent (x : Sender) (w : State) (event : Event) (q : Parts) : Type 0 where
  pub after : State
  pub steps : Steps w event Done after
  pub stand : StandFor x q after

-- the share has as much more or less of the account as the row
abbrev pub MovesCredits : Parts → Parts → Type 0
MovesCredits p q = MovesBy (of_worker p.amounts) (of_worker q.amounts) (of_row p.row) (of_row q.row)

-- the laws, each of any run and of any parts that stand for its world

abbrev pub ClaimIsEvent : Type 0
ClaimIsEvent = (ms : List Moment) (w : State) (x : Sender) (p q : Parts) → FromStart ms w → StandFor x p w → ClaimsSlot x p q
    → IsEvent x w (Claim (x.name x.seat) x.slot) q

-- the number is the world's next, and its worker's
abbrev pub SendingIsEvent : Type 0
SendingIsEvent = (ms : List Moment) (w : State) (x : Sender) (p q : Parts) → FromStart ms w → StandFor x p w → Sends x p q
    → (e : IsEvent x w (Post (x.name x.seat) x.slot x.request) q) × DrawsNumber ms w (x.name x.seat) x.slot x.request e.after

abbrev pub AnswerIsEvent : Type 0
AnswerIsEvent = (ms : List Moment) (w : State) (x : Sender) (p q : Parts) (reply : Reply) → FromStart ms w → StandFor x p w → IsAnsweredBy reply p q
    → IsEvent x w (Respond reply.number reply.status reply.nack) q

abbrev pub DecisionIsEvent : Type 0
DecisionIsEvent = (ms : List Moment) (w : State) (x : Sender) (p q : Parts) → FromStart ms w → StandFor x p w → IsDecided x p q
    → IsEvent x w (Settle (x.name x.seat) x.slot) q × MovesCredits p q

abbrev pub ExpiryIsEvent : Type 0
ExpiryIsEvent = (ms : List Moment) (w : State) (x : Sender) (p q : Parts) → FromStart ms w → StandFor x p w → Expires x p q
    → IsEvent x w (Expire (x.name x.seat) x.slot) q

abbrev pub GivingUpIsEvent : Type 0
GivingUpIsEvent = (ms : List Moment) (w : State) (x : Sender) (p q : Parts) → FromStart ms w → StandFor x p w → IsGivenUp x p q
    → IsEvent x w (Discard x.request) q × MovesCredits p q

abbrev pub ReleaseIsEvent : Type 0
ReleaseIsEvent = (ms : List Moment) (w : State) (x : Sender) (p q : Parts) → FromStart ms w → StandFor x p w → ReleasesSlot x p q
    → IsEvent x w (Release (x.name x.seat) x.slot) q

-- what is left is left by no event that is done
abbrev pub LeavingIsNoEvent : Type 0
LeavingIsNoEvent = (ms : List Moment) (w : State) (x : Sender) (p q : Parts) (event : Event) → FromStart ms w → StandFor x p w → IsLeft x p q
    → ¬ IsEvent x w event q
