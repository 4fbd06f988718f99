-- The outcomes of frames, and how they are counted. A list of outcomes, one a frame, is named `deeds`.
use Rattle.std.specs.Prelude.{◌≡◌, ◌≢◌, ℕ, ◌+◌, ◌≤◌, List, [], ◌∷◌, ◌++◌, length, Option, Some, None, Bool, true, false, ◌==◌, if◌then◌else◌}
use Rattle.sms_core.specs.Statuses.{bad_command_length, no_error}
use Rattle.sms_pdu.specs.declared.body.Pdu.{Pdu}
use Rattle.sms_pdu.specs.declared.body.Body.{Body}
use Rattle.sms_pdu.specs.declared.body.Body.TheVariants as body
use Rattle.sms_pdu.specs.declared.reply.Reply.{Reply}
use Rattle.sms_pdu.specs.declared.command.Command.TheVariants as command
use Rattle.sms_pdu.specs.Command.{id_of}
use Rattle.sms_pdu.specs.Grammar.{Spells}
use Rattle.sms_pdu.specs.Header.{header_at_front}
use Rattle.sms_pdu.specs.Reply.{reply_in}
use Rattle.sms_pdu.specs.Streams.{Stretch, going, complete, lost, early}
use Rattle.sms_session.specs.declared.session.Action.{Action}
use Rattle.sms_session.specs.declared.session.Action.TheVariants as action
use Rattle.sms_session.specs.declared.session.Response.{Response}
use Rattle.sms_session.specs.declared.session.State.{State}
use Rattle.sms_session.specs.declared.session.State.TheVariants.{BoundTx, BoundTrx, Closed as StateClosed}
use Rattle.sms_session.specs.Session.{on_table}
use Rattle.sms_slot.specs.declared.row.Delivery.{Delivery}
use Rattle.sms_slot.specs.declared.row.Delivery.TheVariants.{Found, Overrun, Unknown}
use Rattle.sms_slot.specs.Rings.{place_of, slot_delivery, HasRing, Room}
use Rattle.sms_bind.specs.declared.outcome.FrameOutcome.{FrameOutcome}
use Rattle.sms_bind.specs.declared.outcome.FrameOutcome.TheVariants.{Answer, Replied, Noted, Closed}
use Rattle.sms_bind.specs.declared.outcome.Written.{Written}
use Rattle.sms_bind.specs.declared.outcome.Written.TheVariants.{Sent, NoMemory, Broken}
use Rattle.sms_bind.specs.declared.ending.ReaderCause.{ReaderCause}
use Rattle.sms_bind.specs.declared.ending.ReaderCause.TheVariants as cause
use Rattle.sms_bind.specs.declared.counts.Counts.{Counts}
use Rattle.sms_bind.specs.declared.device.Keeping.{Keeping}
use Rattle.sms_bind.specs.Keepings.{answer_to, is_asked}
use Rattle.sms_bind.specs.Held.{Held}
use Rattle.sms_bind.specs.Follows.{Notes}

-- ---- what is written

-- the body of a response with this command; a deliver_sm_resp has an empty message_id (SMPP 3.4 4.6.2)
abbrev pub body_for : ℕ → Body
body_for id =
    if id == id_of command.DeliverSmResp then body.DeliverResp (Some [])
    else (if id == id_of command.EnquireLinkResp then body.EnquireLinkResp
    else (if id == id_of command.UnbindResp then body.UnbindResp else body.GenericNack))

abbrev pub pdu_for : Response → Pdu
pdu_for r = record { status = r.status; number = r.number; body = body_for r.command }

-- the response to a bad command_length (SMPP 3.4 4.3)
abbrev pub bad_length_response : Response
bad_length_response = record { command = id_of command.GenericNack; status = bad_command_length; number = 0 }

-- an enquire_link with this number (SMPP 3.4 4.11.1)
abbrev pub enquiry_of : ℕ → Pdu
enquiry_of number = record { status = no_error; number = number; body = body.EnquireLink }

-- the octets that were given to the wire encode the response; a reason why it wasn't written is of its number
abbrev pub IsWritten : Response → Written → Type 0
IsWritten response (Sent octets) = Spells (pdu_for response) octets
IsWritten response (NoMemory lack) = lack.number ≡ response.number
IsWritten response (Broken lack) = lack.number ≡ response.number

-- ---- the outcome of one frame

-- the outcome is this response, and the octets that were given to the wire encode it
abbrev pub Responded : Response → FrameOutcome → Type 0
Responded response deed = (written : Written) × (deed ≡ Replied response written) × IsWritten response written

-- The outcome is the response that is asked for. Where deliver_sm are to be kept (`keeps`), one that wasn't is refused for a time.
pub record Answered (keeps : Bool) (response : Response) (deed : FrameOutcome) : Type 0 where
  pub keeping : Keeping
  pub asked : is_asked keeping ≡ keeps
  pub responded : Responded (answer_to keeping response) deed

-- the frame's outcome is what the action asks for
abbrev pub Does : Bool → Action → List ℕ → FrameOutcome → Type 0
Does keeps action.Answer frame deed = (reply : Reply) × (delivery : Delivery) × (reply_in frame ≡ Some reply) × (deed ≡ Answer reply delivery)
Does keeps (action.Reply response) frame deed = Answered keeps response deed
Does keeps (action.ReplyClose response) frame deed = Answered keeps response deed
Does keeps action.Note frame deed = deed ≡ Noted
Does keeps action.Close frame deed = deed ≡ Closed
Does keeps action.Drop frame deed = deed ≡ Closed

-- the frame's outcome is what the session's table asks for
abbrev pub Suits : Bool → State → List ℕ → FrameOutcome → Type 0
Suits keeps state frame deed = Does keeps (on_table state (header_at_front frame)).0 frame deed

-- the state that the table leads to, frame by frame
abbrev pub state_after : State → List (List ℕ) → State
state_after state [] = state
state_after state (frame ∷ frames) = state_after (on_table state (header_at_front frame)).1 frames

-- the answer, with the place of the ring that took it
abbrev pub entry : FrameOutcome → List (Reply × Option ℕ)
entry (Answer reply delivery) = (reply, place_of (slot_delivery delivery)) ∷ []
entry (Replied response written) = []
entry Noted = []
entry Closed = []

abbrev pub log : List FrameOutcome → List (Reply × Option ℕ)
log [] = []
log (deed ∷ deeds) = entry deed ++ log deeds

-- the reader's seat counts the answers that a ring took
abbrev pub Follow : FrameOutcome → Held → Held → Type 0
Follow (Answer reply (Found slot worker)) old new = Notes reply old new
Follow (Answer reply (Overrun slot worker)) old new = new ≡ old
Follow (Answer reply Unknown) old new = new ≡ old
Follow (Replied response written) old new = new ≡ old
Follow Noted old new = new ≡ old
Follow Closed old new = new ≡ old

abbrev pub FollowAll : List FrameOutcome → Held → Held → Type 0
FollowAll [] old new = new ≡ old
FollowAll (deed ∷ deeds) old new = (next : Held) × Follow deed old next × FollowAll deeds next new

-- The room that the rings are known to have: a ring that takes an answer loses one place at most, and an answer that
-- overruns finds none that is known; all other outcomes change nothing.
abbrev pub TakesRoom : FrameOutcome → List ℕ → List ℕ → Type 0
TakesRoom (Answer reply delivery) old new = HasRing (slot_delivery delivery) (length old) × Room (slot_delivery delivery) old new
TakesRoom (Replied response written) old new = new ≡ old
TakesRoom Noted old new = new ≡ old
TakesRoom Closed old new = new ≡ old

abbrev pub TakeRoomAll : List FrameOutcome → List ℕ → List ℕ → Type 0
TakeRoomAll [] old new = new ≡ old
TakeRoomAll (deed ∷ deeds) old new = (next : List ℕ) × TakesRoom deed old next × TakeRoomAll deeds next new

-- ---- why the reader ends

abbrev pub cause_by : State → Option ReaderCause
cause_by BoundTx = None
cause_by BoundTrx = None
cause_by StateClosed = Some cause.Unbound

-- why the reader ends after this outcome, which left the session in this state
abbrev pub cause_after : FrameOutcome → State → Option ReaderCause
cause_after (Answer reply delivery) state = cause_by state
cause_after (Replied response (Sent octets)) state = cause_by state
cause_after (Replied response (NoMemory lack)) state = cause_by state
cause_after (Replied response (Broken lack)) state = Some cause.WriteFault
cause_after Noted state = cause_by state
cause_after Closed state = cause_by state

-- Each outcome is what the table asks for in the state after the frames before, and no frame is handled after one that ended the
-- reader: one that closed the session or broke the wire.
abbrev pub SuitAll : Bool → State → List (List ℕ) → List FrameOutcome → Type 0
SuitAll keeps state [] [] = Unit {0}
SuitAll keeps state [] (deed ∷ deeds) = ⊥
SuitAll keeps state (frame ∷ frames) [] = ⊥
SuitAll keeps state (frame ∷ frames) (deed ∷ deeds) =
    Suits keeps state frame deed × (frames ≢ [] → cause_after deed (state_after state (frame ∷ [])) ≡ None) × SuitAll keeps (state_after state (frame ∷ [])) frames deeds

-- How far the stream was handled: all whole frames, unless the session closed, the wire broke or memory ran out; and a bad length
-- is next iff the reader ended for it.
abbrev pub stretch_of : Option ReaderCause → Stretch
stretch_of None = going
stretch_of (Some cause.Ended) = complete
stretch_of (Some cause.Unbound) = early
stretch_of (Some cause.Lost) = lost
stretch_of (Some cause.ReadFault) = complete
stretch_of (Some cause.WriteFault) = early
stretch_of (Some (cause.Stopped seen)) = complete
stretch_of (Some cause.Turns) = complete
stretch_of (Some cause.OutOfMemory) = early
stretch_of (Some cause.Unstarted) = early
stretch_of (Some cause.Silent) = complete

-- the state after the handled frames: the session is closed iff that ended the reader; where the wire broke it may be; a reader that
-- handles frames has begun
abbrev pub Reaches : Option ReaderCause → State → State → Type 0
Reaches None state reached = reached ≡ state
Reaches (Some cause.Ended) state reached = reached ≡ state
Reaches (Some cause.Unbound) state reached = reached ≡ StateClosed
Reaches (Some cause.Lost) state reached = reached ≡ state
Reaches (Some cause.ReadFault) state reached = reached ≡ state
Reaches (Some cause.WriteFault) state reached = Unit {0}
Reaches (Some (cause.Stopped seen)) state reached = reached ≡ state
Reaches (Some cause.Turns) state reached = reached ≡ state
Reaches (Some cause.OutOfMemory) state reached = reached ≡ state
Reaches (Some cause.Unstarted) state reached = ⊥
Reaches (Some cause.Silent) state reached = reached ≡ state

-- how many responses the wire refused
abbrev pub broken_at : Option ReaderCause → ℕ
broken_at None = 0
broken_at (Some cause.Ended) = 0
broken_at (Some cause.Unbound) = 0
broken_at (Some cause.Lost) = 0
broken_at (Some cause.ReadFault) = 0
broken_at (Some cause.WriteFault) = 1
broken_at (Some (cause.Stopped seen)) = 0
broken_at (Some cause.Turns) = 0
broken_at (Some cause.OutOfMemory) = 0
broken_at (Some cause.Unstarted) = 0
broken_at (Some cause.Silent) = 0

-- ---- how many outcomes there are of each kind

abbrev pub one_if : Bool → ℕ
one_if true = 1
one_if false = 0

abbrev pub counted : (FrameOutcome → Bool) → List FrameOutcome → ℕ
counted p [] = 0
counted p (deed ∷ deeds) = one_if (p deed) + counted p deeds

abbrev pub finds : Delivery → Bool
finds (Found slot worker) = true
finds (Overrun slot worker) = false
finds Unknown = false

abbrev pub overruns : Delivery → Bool
overruns (Found slot worker) = false
overruns (Overrun slot worker) = true
overruns Unknown = false

abbrev pub misses : Delivery → Bool
misses (Found slot worker) = false
misses (Overrun slot worker) = false
misses Unknown = true

-- a request that has a deliver_sm_resp is a deliver_sm
abbrev pub delivers : Response → Bool
delivers response = response.command == id_of command.DeliverSmResp

abbrev pub nacks : Response → Written → Bool
nacks response (Sent octets) = response.command == id_of command.GenericNack
nacks response (NoMemory lack) = false
nacks response (Broken lack) = false

abbrev pub is_silent : Written → Bool
is_silent (Sent octets) = false
is_silent (NoMemory lack) = true
is_silent (Broken lack) = false

abbrev pub is_broken : Written → Bool
is_broken (Sent octets) = false
is_broken (NoMemory lack) = false
is_broken (Broken lack) = true

-- p is true of an answer's delivery; of a response and whether it was written
abbrev pub of_answer : (Delivery → Bool) → FrameOutcome → Bool
of_answer p (Answer reply delivery) = p delivery
of_answer p (Replied response written) = false
of_answer p Noted = false
of_answer p Closed = false

abbrev pub of_response : (Response → Written → Bool) → FrameOutcome → Bool
of_response p (Answer reply delivery) = false
of_response p (Replied response written) = p response written
of_response p Noted = false
of_response p Closed = false

abbrev pub is_note : FrameOutcome → Bool
is_note (Answer reply delivery) = false
is_note (Replied response written) = false
is_note Noted = true
is_note Closed = false

-- ---- the same, as the reader counts

abbrev pub no_counts : Counts
no_counts = record { frames = 0; answered = 0; unknown = 0; overrun = 0; delivered = 0; noted = 0; nacked = 0; unreplied = 0 }

abbrev pub with_answer : Counts → Delivery → Counts
with_answer c (Found slot worker) = record c { answered = c.answered + 1 }
with_answer c (Overrun slot worker) = record c { overrun = c.overrun + 1 }
with_answer c Unknown = record c { unknown = c.unknown + 1 }

abbrev pub with_reply : Counts → Response → Written → Counts
with_reply c response written =
    record c { delivered = c.delivered + one_if (delivers response); nacked = c.nacked + one_if (nacks response written); unreplied = c.unreplied + one_if (is_silent written) }

abbrev pub with_frame : Counts → Counts
with_frame c = record c { frames = c.frames + 1 }

-- one frame more, with this outcome
abbrev pub tally : Counts → FrameOutcome → Counts
tally c (Answer reply delivery) = with_answer (with_frame c) delivery
tally c (Replied response written) = with_reply (with_frame c) response written
tally c Noted = record c { frames = c.frames + 1; noted = c.noted + 1 }
tally c Closed = with_frame c

abbrev pub tallies : Counts → List FrameOutcome → Counts
tallies c [] = c
tallies c (deed ∷ deeds) = tallies (tally c deed) deeds

-- no count is more than the frames
pub record IsWithin (c : Counts) : Type 0 where
  pub answers : c.answered + c.unknown + c.overrun ≤ c.frames
  pub delivers : c.delivered ≤ c.frames
  pub notes : c.noted ≤ c.frames
  pub nacks : c.nacked ≤ c.frames
  pub silent : c.unreplied ≤ c.frames
