-- What each event that is done changes: the row of its account, its request, and the numbers drawn.
use Rattle.std.specs.Prelude.{◌≡◌, ◌≢◌, ℕ, ◌≤◌, Bool, List, [], ◌∷◌, ◌++◌, Some, None}
use Rattle.sms_core.specs.declared.event.Event.{Event}
use Rattle.sms_core.specs.declared.event.Event.TheVariants.{TopUp, Reserve, Claim, Post, Respond, Settle, Expire, Discard, Release}
use Rattle.sms_core.specs.declared.event.Step.{Step}
use Rattle.sms_core.specs.declared.event.Step.TheVariants.{Done}
use Rattle.sms_core.specs.declared.mark.Mark.TheVariants.{Open, Replied}
use Rattle.sms_core.specs.declared.request.Phase.TheVariants.{Ready, Unanswered, Open as Waiting}
use Rattle.sms_core.specs.declared.request.RequestState.{RequestState}
use Rattle.sms_core.specs.declared.row.Row.{Row}
use Rattle.sms_core.specs.Histories.{Moment, FromStart, numbers_given, numbers_given_to}
use Rattle.sms_core.specs.Limits.{top_number}
use Rattle.sms_core.specs.Numbers.{Draws}
use Rattle.sms_core.specs.RowMoves.{row_topped_up, row_reserved, row_given_back, row_after}
use Rattle.sms_core.specs.State.{State, rows, request_of, mark_of}
use Rattle.sms_core.specs.Steps.{Steps, reserved_request, posted, answered, with_phase, phase_after, discarded}

-- the request that an event is about

-- a request that may be sent
pub record IsReady (w : State) (request : ℕ) : Type 0 where
  pub state : RequestState
  pub known : request_of w request ≡ Some state
  pub ready : state.phase ≡ Ready

-- the slot waits for the answer to a request that was sent
pub record IsSent (w : State) (slot : ℕ) : Type 0 where
  pub request : ℕ
  pub number : ℕ
  pub state : RequestState
  pub mark : mark_of w slot ≡ Open request number
  pub known : request_of w request ≡ Some state
  pub waits : state.phase ≡ Waiting

-- the slot has the answer to a request that was sent
pub record IsReplied (w : State) (slot : ℕ) : Type 0 where
  pub request : ℕ
  pub number : ℕ
  pub status : ℕ
  pub nack : Bool
  pub state : RequestState
  pub mark : mark_of w slot ≡ Replied request number status nack
  pub known : request_of w request ≡ Some state
  pub waits : state.phase ≡ Waiting

-- rows

-- an account's row is moved as told, and no other
pub record MovesRow (old : State) (account : ℕ) (move : Row → Row) (new : State) : Type 0 where
  pub row : Row
  pub before : rows old account ≡ Some row
  pub after : rows new account ≡ Some (move row)
  pub others : (other : ℕ) → other ≢ account → rows new other ≡ rows old other

abbrev pub SameRows : State → State → Type 0
SameRows old new = (account : ℕ) → rows new account ≡ rows old account

abbrev pub RowStep : State → Event → State → Type 0
RowStep old (TopUp account amount) new = MovesRow old account (row_topped_up amount) new
RowStep old (Reserve request account cost) new = MovesRow old account (row_reserved cost) new
RowStep old (Claim worker slot) new = SameRows old new
RowStep old (Post worker slot request) new = SameRows old new
RowStep old (Respond number status nack) new = SameRows old new
RowStep old (Settle worker slot) new =
    (r : IsReplied old slot) × MovesRow old r.state.account (row_after (phase_after old.attempts r.status r.nack r.state.attempts) r.state.cost) new
RowStep old (Expire worker slot) new = SameRows old new
RowStep old (Discard request) new = (r : IsReady old request) × MovesRow old r.state.account (row_given_back r.state.cost) new
RowStep old (Release worker slot) new = SameRows old new

-- the row of a done event's account is the move of its old row, and all others are as they were
abbrev pub RowsMove : Type 0
RowsMove = (ms : List Moment) (old new : State) (event : Event) → FromStart ms old → Steps old event Done new → RowStep old event new

-- requests

-- a request is moved as told, and no other
pub record MovesRequest (old : State) (request : ℕ) (move : RequestState → RequestState) (new : State) : Type 0 where
  pub state : RequestState
  pub before : request_of old request ≡ Some state
  pub after : request_of new request ≡ Some (move state)
  pub others : (other : ℕ) → other ≢ request → request_of new other ≡ request_of old other

-- a request is new, and all others are as they were
pub record AddsRequest (old : State) (request : ℕ) (state : RequestState) (new : State) : Type 0 where
  pub before : request_of old request ≡ None
  pub after : request_of new request ≡ Some state
  pub others : (other : ℕ) → other ≢ request → request_of new other ≡ request_of old other

abbrev pub SameRequests : State → State → Type 0
SameRequests old new = (request : ℕ) → request_of new request ≡ request_of old request

abbrev pub RequestStep : State → Event → State → Type 0
RequestStep old (TopUp account amount) new = SameRequests old new
RequestStep old (Reserve request account cost) new = AddsRequest old request (reserved_request request account cost).state new
RequestStep old (Claim worker slot) new = SameRequests old new
RequestStep old (Post worker slot request) new = IsReady old request × MovesRequest old request posted new
RequestStep old (Respond number status nack) new = SameRequests old new
RequestStep old (Settle worker slot) new = (r : IsReplied old slot) × MovesRequest old r.request (answered old.attempts r.status r.nack) new
RequestStep old (Expire worker slot) new = (r : IsSent old slot) × MovesRequest old r.request (with_phase Unanswered) new
RequestStep old (Discard request) new = IsReady old request × MovesRequest old request discarded new
RequestStep old (Release worker slot) new = SameRequests old new

-- the request of a done event is posted, answered or given up, a Reserve adds one, and all others are as they were
abbrev pub RequestsMove : Type 0
RequestsMove = (ms : List Moment) (old new : State) (event : Event) → FromStart ms old → Steps old event Done new → RequestStep old event new

-- numbers

-- after a run, the moment of a Post that is done
abbrev pub then_posted : List Moment → State → ℕ → ℕ → ℕ → State → List Moment
then_posted ms old worker slot request new = ms ++ (record { before = old; event = Post worker slot request; answer = Done; after = new }) ∷ []

-- the Post drew the next number: of all numbers given, and of its worker's
pub record DrawsNumber (ms : List Moment) (old : State) (worker slot request : ℕ) (new : State) : Type 0 where
  pub all : Draws (numbers_given ms) old.next (numbers_given (then_posted ms old worker slot request new)) new.next
  pub own : Draws (numbers_given_to worker ms) old.next (numbers_given_to worker (then_posted ms old worker slot request new)) new.next
  pub others : (other : ℕ) → other ≢ worker → numbers_given_to other (then_posted ms old worker slot request new) ≡ numbers_given_to other ms
  pub lawful : old.next ≤ top_number

abbrev pub PostDraws : Type 0
PostDraws = (ms : List Moment) (old new : State) (worker slot request : ℕ) → FromStart ms old → Steps old (Post worker slot request) Done new
    → DrawsNumber ms old worker slot request new

-- nothing else moves the next number
abbrev pub OnlyPostDraws : Type 0
OnlyPostDraws = (old new : State) (event : Event) (answer : Step) → Steps old event answer new
    → ((worker slot request : ℕ) → event ≡ Post worker slot request → answer ≡ Done → ⊥) → new.next ≡ old.next

-- each event has an answer in each world
abbrev pub EventSteps : Type 0
EventSteps = (old : State) (event : Event) → (answer : Step) × (new : State) × Steps old event answer new
