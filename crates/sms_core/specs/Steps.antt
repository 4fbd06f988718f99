-- The step of a world: for each event the checks in their order, the first of which that applies is the cause why the event
-- is ignored, and its effect where none does.
use Rattle.std.specs.Prelude.{◌≡◌, ℕ, ◌+◌, ◌==◌, ◌&&◌, ◌||◌, not, nat_lt, nat_le, Bool, true, false, List, [], ◌∷◌, ◌++◌, length, slice_get, slice_set, Option, Some, None, is_some, if◌then◌else◌}
use Rattle.sms_core.specs.declared.event.Event.{Event}
use Rattle.sms_core.specs.declared.event.Event.TheVariants.{TopUp, Reserve, Claim, Post, Respond, Settle, Expire, Discard, Release}
use Rattle.sms_core.specs.declared.event.Step.{Step}
use Rattle.sms_core.specs.declared.event.Step.TheVariants.{Done, Ignored}
use Rattle.sms_core.specs.declared.event.Cause.{Cause}
use Rattle.sms_core.specs.declared.event.Cause.TheVariants.{NoAccount, NoCredit, SlotHeld, NotHolder, SlotBusy, NoRequest, NotOpen, UnknownNumber, NumbersUsedUp, AmountTooLarge, RequestKnown, BadCost, NoReply}
use Rattle.sms_core.specs.declared.mark.Mark.{Mark}
use Rattle.sms_core.specs.declared.mark.Mark.TheVariants.{Empty, Open, Replied}
use Rattle.sms_core.specs.declared.request.Phase.{Phase}
use Rattle.sms_core.specs.declared.request.Phase.TheVariants.{Ready, Charged, Refused, Unanswered, Unsent, Open as Waiting}
use Rattle.sms_core.specs.declared.request.Request.{Request}
use Rattle.sms_core.specs.declared.request.RequestState.{RequestState}
use Rattle.sms_core.specs.Limits.{most_topped, largest_cost, top_number}
use Rattle.sms_core.specs.Holds.{holders_of, Claims, Releases}
use Rattle.sms_core.specs.Marks.{is_empty, is_open, waits_for}
use Rattle.sms_core.specs.Replies.{is_charge, is_retry}
use Rattle.sms_core.specs.State.{State, topped_of, row_at, request_of, changed, times_held, mark_of}

-- tests of the checks

abbrev pub has_no_account : State → ℕ → Bool
has_no_account w account = nat_le (length w.topped) account

-- a slot beyond the window counts as held
abbrev pub is_held : State → ℕ → Bool
is_held w slot = nat_le w.limit slot || nat_lt 0 (holders_of slot w.holds)

abbrev pub is_not_holder : State → ℕ → ℕ → Bool
is_not_holder w worker slot = times_held worker slot w.holds == 0

abbrev pub is_ready_phase : Phase → Bool
is_ready_phase Ready = true
is_ready_phase Waiting = false
is_ready_phase Charged = false
is_ready_phase Refused = false
is_ready_phase Unanswered = false
is_ready_phase Unsent = false

abbrev pub is_ready_state : Option RequestState → Bool
is_ready_state None = false
is_ready_state (Some r) = is_ready_phase r.phase

-- unknown, or not ready
abbrev pub is_not_ready : State → ℕ → Bool
is_not_ready w request = not (is_ready_state (request_of w request))

-- some slot waits for the answer with this number
abbrev pub some_waits_for : ℕ → List Mark → Bool
some_waits_for number [] = false
some_waits_for number (m ∷ ms) = waits_for number m || some_waits_for number ms

-- the checks of each event, each with the cause that it gives
abbrev pub checks : State → Event → List (Bool × Cause)
checks w (TopUp account amount) =
    (has_no_account w account, NoAccount)
    ∷ (nat_lt most_topped (topped_of w account + amount), AmountTooLarge) ∷ []
checks w (Reserve request account cost) =
    (has_no_account w account, NoAccount)
    ∷ (is_some (request_of w request), RequestKnown)
    ∷ ((cost == 0) || nat_lt largest_cost cost, BadCost)
    ∷ (nat_lt (row_at w account).free cost, NoCredit) ∷ []
checks w (Claim worker slot) = (is_held w slot, SlotHeld) ∷ []
checks w (Post worker slot request) =
    (is_not_holder w worker slot, NotHolder)
    ∷ (not (is_empty (mark_of w slot)), SlotBusy)
    ∷ (is_not_ready w request, NoRequest)
    ∷ (nat_lt top_number w.next, NumbersUsedUp) ∷ []
checks w (Respond number status nack) = (not (some_waits_for number w.marks), UnknownNumber) ∷ []
checks w (Settle worker slot) =
    (is_not_holder w worker slot, NotHolder)
    ∷ (is_empty (mark_of w slot), NotOpen)
    ∷ (is_open (mark_of w slot), NoReply) ∷ []
checks w (Expire worker slot) =
    (is_not_holder w worker slot, NotHolder)
    ∷ (not (is_open (mark_of w slot)), NotOpen) ∷ []
checks w (Discard request) = (is_not_ready w request, NoRequest) ∷ []
checks w (Release worker slot) =
    (is_not_holder w worker slot, NotHolder)
    ∷ (not (is_empty (mark_of w slot)), SlotBusy) ∷ []

-- the cause of the first check that applies
abbrev pub first_cause : List (Bool × Cause) → Option Cause
first_cause [] = None
first_cause (c ∷ cs) = if c.0 then Some c.1 else first_cause cs

abbrev pub cause_of : State → Event → Option Cause
cause_of w event = first_cause (checks w event)

-- what a request becomes

abbrev pub reserved_request : ℕ → ℕ → ℕ → Request
reserved_request request account cost = record { id = request; state = record { account = account; cost = cost; attempts = 0; phase = Ready } }

-- sent once more
abbrev pub posted : RequestState → RequestState
posted r = record { account = r.account; cost = r.cost; attempts = r.attempts + 1; phase = Waiting }

abbrev pub with_phase : Phase → RequestState → RequestState
with_phase phase r = record { account = r.account; cost = r.cost; attempts = r.attempts; phase = phase }

-- after an answer: charged, to be tried again while attempts are left, or refused
abbrev pub phase_after : ℕ → ℕ → Bool → ℕ → Phase
phase_after most status nack made =
    if is_charge status nack then Charged else if is_retry status nack && nat_lt made most then Ready else Refused

abbrev pub answered : ℕ → ℕ → Bool → RequestState → RequestState
answered most status nack r = with_phase (phase_after most status nack r.attempts) r

-- given up: unsent where it was never sent, else refused
abbrev pub discarded : RequestState → RequestState
discarded r = with_phase (if r.attempts == 0 then Unsent else Refused) r

-- the effect of each event that isn't ignored

-- the answer's status and kind are kept with the slot that waits for its number
pub record Responds (old : State) (number status : ℕ) (nack : Bool) (new : State) : Type 0 where
  pub slot : ℕ
  pub request : ℕ
  pub waits : slice_get old.marks slot ≡ Some (Open request number)
  pub after : new ≡ record old { marks = slice_set old.marks slot (Replied request number status nack) }

-- the slot's answer is taken and decides what its request becomes
abbrev pub Settles : State → ℕ → Mark → State → Type 0
Settles old slot Empty new = ⊥
Settles old slot (Open request number) new = ⊥
Settles old slot (Replied request number status nack) new =
    new ≡ record old { marks = slice_set old.marks slot Empty; requests = changed request (answered old.attempts status nack) old.requests }

-- the slot no longer waits, and its request is unanswered for good
abbrev pub Expires : State → ℕ → Mark → State → Type 0
Expires old slot Empty new = ⊥
Expires old slot (Open request number) new =
    new ≡ record old { marks = slice_set old.marks slot Empty; requests = changed request (with_phase Unanswered) old.requests }
Expires old slot (Replied request number status nack) new = ⊥

abbrev pub Effect : State → Event → State → Type 0
Effect old (TopUp account amount) new =
    new ≡ record old { topped = slice_set old.topped account (topped_of old account + amount) }
Effect old (Reserve request account cost) new =
    new ≡ record old { requests = old.requests ++ reserved_request request account cost ∷ [] }
Effect old (Claim worker slot) new =
    Claims old.holds worker slot new.holds
    × (new ≡ record old { holds = new.holds; marks = slice_set old.marks slot Empty })
Effect old (Post worker slot request) new =
    new ≡ record old {
      marks = slice_set old.marks slot (Open request old.next);
      requests = changed request posted old.requests;
      next = old.next + 1;
    }
Effect old (Respond number status nack) new = Responds old number status nack new
Effect old (Settle worker slot) new = Settles old slot (mark_of old slot) new
Effect old (Expire worker slot) new = Expires old slot (mark_of old slot) new
Effect old (Discard request) new = new ≡ record old { requests = changed request discarded old.requests }
Effect old (Release worker slot) new =
    Releases old.holds worker slot new.holds × (new ≡ record old { holds = new.holds })

-- one step: what the event answers and leaves
abbrev pub Steps : State → Event → Step → State → Type 0
Steps old event (Ignored cause) new = (cause_of old event ≡ Some cause) × (new ≡ old)
Steps old event Done new = (cause_of old event ≡ None) × Effect old event new
