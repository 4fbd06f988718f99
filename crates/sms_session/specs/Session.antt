-- The states of a session, and its table (SMPP 3.4 2.2, 2.3).
use Rattle.std.specs.Prelude.{◌≡◌, ◌≢◌, ℕ, List, [], ◌∷◌, Bool, true, false, ◌==◌, ◌&&◌, ◌||◌, if◌then◌else◌, Result, Ok, Err, ◌⊎◌}
use Rattle.sms_core.specs.Statuses.{no_error, wrong_bind_state, bad_command_id}
use Rattle.sms_pdu.specs.declared.header.Header.{Header}
use Rattle.sms_pdu.specs.declared.command.Mode.{Mode}
use Rattle.sms_pdu.specs.declared.command.Mode.TheVariants.{Transmitter, Transceiver}
use Rattle.sms_pdu.specs.declared.command.Command.{Command}
use Rattle.sms_pdu.specs.declared.command.Command.TheVariants as command
use Rattle.sms_pdu.specs.Command.{id_of, alert_notification, is_response}
use Rattle.sms_pdu.specs.Grammar.{bind_resp_command}
use Rattle.sms_session.specs.declared.session.State.{State}
use Rattle.sms_session.specs.declared.session.State.TheVariants.{BoundTx, BoundTrx, Closed}
use Rattle.sms_session.specs.declared.session.Response.{Response}
use Rattle.sms_session.specs.declared.session.Action.{Action}
use Rattle.sms_session.specs.declared.session.Action.TheVariants as action
use Rattle.sms_session.specs.declared.session.OpenFault.{OpenFault}
use Rattle.sms_session.specs.declared.session.OpenFault.TheVariants.{Refused, NotBind}

-- the PDU has this command_id
abbrev pub is : Command → ℕ → Bool
is c id = id == id_of c

-- the state that a bind of this mode leads to
abbrev pub first_state : Mode → State
first_state Transmitter = BoundTx
first_state Transceiver = BoundTrx

-- what the PDU that answers a bind of this mode comes to
abbrev pub opening : Mode → Header → Result State (Mode × OpenFault)
opening mode header =
    if is (bind_resp_command mode) header.command && (header.status == no_error) then Ok (first_state mode)
    else (if is (bind_resp_command mode) header.command || is command.GenericNack header.command then Err (mode, Refused header.status) else Err (mode, NotBind))

-- the session may be used
abbrev pub IsBound : State → Type 0
IsBound state = state ≢ Closed

abbrev pub MaySend : State → ℕ → Type 0
MaySend state id = IsBound state × ((id ≡ id_of command.SubmitSm) ⊎ (id ≡ id_of command.Unbind) ⊎ (id ≡ id_of command.EnquireLink))

-- ---- the words of the table

-- A row: in which states and for which command_ids it stands, what is done, and the next state.
pub record Row : Type 0 where
  pub from : State → Bool
  pub takes : ℕ → Bool
  pub does : Header → Action
  pub next : State → State

abbrev pub row : (State → Bool) → (ℕ → Bool) → (Header → Action) → (State → State) → Row
row from takes does next = record { from = from; takes = takes; does = does; next = next }

abbrev pub bound : State → Bool
bound BoundTx = true
bound BoundTrx = true
bound Closed = false

-- bound, and deliver_sm may come
abbrev pub receiving : State → Bool
receiving BoundTx = false
receiving BoundTrx = true
receiving Closed = false

abbrev pub same : State → State
same state = state

abbrev pub closed : State → State
closed state = Closed

-- the answer to a submit_sm
abbrev pub is_answer : ℕ → Bool
is_answer id = is command.SubmitSmResp id || is command.GenericNack id

-- alert_notification, which has no response (4.12.1), or a response
abbrev pub is_noted : ℕ → Bool
is_noted id = (id == alert_notification) || is_response id

abbrev pub any : ℕ → Bool
any id = true

-- a response carries the number of its request
abbrev pub response : Command → ℕ → Header → Response
response c status request = record { command = id_of c; status = status; number = request.number }

abbrev pub reply : Command → ℕ → Header → Action
reply c status request = action.Reply (response c status request)

-- the request is answered, and the session is closed with it
abbrev pub last_reply : Command → ℕ → Header → Action
last_reply c status request = action.ReplyClose (response c status request)

-- ---- the table: the first row that stands for the state and the command decides, and where none does the PDU is dropped

abbrev pub table : List Row
table =
    row bound is_answer (λ h. action.Answer) same
    ∷ row bound (is command.EnquireLink) (reply command.EnquireLinkResp no_error) same
    ∷ row bound (is command.Unbind) (last_reply command.UnbindResp no_error) closed
    ∷ row bound (is command.UnbindResp) (λ h. action.Close) closed
    ∷ row receiving (is command.DeliverSm) (reply command.DeliverSmResp no_error) same
    ∷ row bound (is command.DeliverSm) (reply command.DeliverSmResp wrong_bind_state) same
    ∷ row bound is_noted (λ h. action.Note) same
    ∷ row bound any (reply command.GenericNack bad_command_id) same
    ∷ []

abbrev pub by_rows : List Row → State → Header → Action × State
by_rows [] state header = (action.Drop, Closed)
by_rows (r ∷ rs) state header = if r.from state && r.takes header.command then (r.does header, r.next state) else by_rows rs state header

abbrev pub on_table : State → Header → Action × State
on_table state header = by_rows table state header
