-- What the centre says to a frame, after the submit_sm that came before it.
use Rattle.std.specs.Prelude.{◌≡◌, ℕ, ◌+◌, ◌%◌, ◌^◌, List, [], ◌∷◌, ◌++◌, take, filter, min, not, ◌-◌, Option, Some, None, ◌==◌, decimal, if◌then◌else◌, codes}
use Rattle.std.specs.List.{AllZip, flat_map, concat}
use Rattle.std.specs.Int.{w32, to_be_bytes}
use Rattle.sms_core.specs.Statuses.{no_error, bad_command_id}
use Rattle.sms_pdu.specs.declared.header.Header.{Header}
use Rattle.sms_pdu.specs.declared.body.Pdu.{Pdu}
use Rattle.sms_pdu.specs.declared.body.Sm.{Sm}
use Rattle.sms_pdu.specs.declared.body.Body.{Body}
use Rattle.sms_pdu.specs.declared.body.Body.TheVariants as body
use Rattle.sms_pdu.specs.declared.command.Mode.{Mode}
use Rattle.sms_pdu.specs.declared.command.Mode.TheVariants.{Transmitter, Transceiver}
use Rattle.sms_pdu.specs.declared.command.Command.TheVariants as command
use Rattle.sms_pdu.specs.Command.{id_of, is_response}
use Rattle.sms_pdu.specs.Grammar.{Spells}
use Rattle.sms_centre.specs.declared.kept.Kept.{Kept}
use Rattle.sms_centre.specs.declared.said.Said.{Said}
use Rattle.sms_centre.specs.declared.said.Said.TheVariants as said
use Rattle.sms_centre.specs.declared.treatment.Treatment.{Treatment}
use Rattle.sms_centre.specs.declared.treatment.Treatment.TheVariants.{Status, Nack, Silent, Unbind, Twice, Stray, Late, Deliver, Cut, Huge}
use Rattle.sms_centre.specs.Scripts.{Plan, treatment}

abbrev pub pdu : ℕ → ℕ → Body → Pdu
pdu status number b = record { status = status; number = number; body = b }

-- the answer to submit_sm k: message_id m and k in decimal where the status is 0, else no body
abbrev pub message_id : ℕ → ℕ → Option (List ℕ)
message_id k status = if status == no_error then Some (109 ∷ decimal k) else None

abbrev pub answer_to : ℕ → ℕ → ℕ → Pdu
answer_to k status number = pdu status number (body.SubmitResp (message_id k status))

-- the answer to a bind: a system_id only where the status is 0
abbrev pub system_id : ℕ → Option (List ℕ)
system_id status = if status == no_error then Some (codes "TEST") else None

abbrev pub bind_answer : Mode → ℕ → ℕ → Pdu
bind_answer mode status number = pdu status number (body.BindResp mode (system_id status) [])

abbrev pub empty_sm : Sm
empty_sm =
    record { service_type = []; source_ton = 0; source_npi = 0; source_addr = []; dest_ton = 0; dest_npi = 0; dest_addr = []; esm_class = 0; protocol_id = 0; priority = 0; schedule = []; validity = []; registered = 0; replace = 0; data_coding = 0; default_msg = 0; short_message = []; params = [] }

-- the first ten octets of an answer
pub record IsCut (p : Pdu) (octets : List ℕ) : Type 0 where
  pub all : List ℕ
  pub spelled : Spells p all
  pub front : octets ≡ take 10 all

-- the octets of a piece
abbrev pub IsSaid : Said → List ℕ → Type 0
IsSaid (said.BindResp mode status number) octets = Spells (bind_answer mode status number) octets
IsSaid (said.SubmitResp k status number) octets = Spells (answer_to k status number) octets
IsSaid (said.CutResp k number) octets = IsCut (answer_to k no_error number) octets
IsSaid (said.GenericNack status number) octets = Spells (pdu status number body.GenericNack) octets
IsSaid said.Unbind octets = Spells (pdu no_error 1 body.Unbind) octets
IsSaid (said.UnbindResp number) octets = Spells (pdu no_error number body.UnbindResp) octets
IsSaid (said.EnquireLinkResp number) octets = Spells (pdu no_error number body.EnquireLinkResp) octets
IsSaid said.Deliver octets = Spells (pdu no_error 2 (body.Deliver empty_sm)) octets
IsSaid said.HugeLength octets = octets ≡ to_be_bytes w32 70001

-- the same, after what was there
pub record Puts (said : Said) (old new : List ℕ) : Type 0 where
  pub octets : List ℕ
  pub is : IsSaid said octets
  pub behind : new ≡ old ++ octets

-- pieces after what was there, one after another
pub record PutsAll (saids : List Said) (old new : List ℕ) : Type 0 where
  pub pieces : List (List ℕ)
  pub behind : new ≡ old ++ concat pieces
  pub said : AllZip IsSaid saids pieces

-- what is said at once to submit_sm k with this sequence_number
abbrev pub at_once : Treatment → ℕ → ℕ → List Said
at_once (Status status) k number = said.SubmitResp k status number ∷ []
at_once (Nack status) k number = said.GenericNack status number ∷ []
at_once Silent k number = []
at_once Unbind k number = said.Unbind ∷ []
at_once (Twice status) k number = said.SubmitResp k status number ∷ said.SubmitResp k status number ∷ []
at_once (Stray status) k number = said.SubmitResp k status ((number + 1000000) % 2 ^ 32) ∷ []
at_once (Late after status) k number = []
at_once Deliver k number = said.Deliver ∷ said.SubmitResp k no_error number ∷ []
at_once Cut k number = said.CutResp k number ∷ []
at_once Huge k number = said.HugeLength ∷ []

-- what is kept of a submit_sm until another comes
abbrev pub kept_of : Treatment → ℕ → ℕ → List Kept
kept_of (Late after status) k number = record { due = min (k + after) (2 ^ 64 - 1); said = said.SubmitResp k status number } ∷ []
kept_of (Status status) k number = []
kept_of (Nack status) k number = []
kept_of Silent k number = []
kept_of Unbind k number = []
kept_of (Twice status) k number = []
kept_of (Stray status) k number = []
kept_of Deliver k number = []
kept_of Cut k number = []
kept_of Huge k number = []

-- what is due when submit_sm k comes
abbrev pub said_of : ℕ → Kept → List Said
said_of k x = if x.due == k then x.said ∷ [] else []

-- all of it, in the order in which it was kept
abbrev pub due : ℕ → List Kept → List Said
due k xs = flat_map (said_of k) xs

-- and what stays
abbrev pub not_due : ℕ → List Kept → List Kept
not_due k xs = filter (λ x. not (x.due == k)) xs

-- the script, the submit_sm that came, and what is kept of them
pub record Progress : Type 0 where
  pub plan : Plan
  pub submits : ℕ
  pub kept : List Kept

-- none came
abbrev pub begun : Plan → Progress
begun plan = record { plan = plan; submits = 0; kept = [] }

-- the count stays at its greatest value
abbrev pub next_submit : Progress → ℕ
next_submit p = min (p.submits + 1) (2 ^ 64 - 1)

abbrev pub submit_said : Progress → ℕ → ℕ → List Said
submit_said p k number = due k p.kept ++ at_once (treatment p.plan k) k number

abbrev pub submit_after : Progress → ℕ → ℕ → Progress
submit_after p k number = record p { submits = k; kept = not_due k p.kept ++ kept_of (treatment p.plan k) k number }

-- what is said to any frame but a submit_sm
abbrev pub reply_said : ℕ → Header → List Said
reply_said bind_status h =
    if h.command == id_of command.BindTransmitter then said.BindResp Transmitter bind_status h.number ∷ []
    else (if h.command == id_of command.BindTransceiver then said.BindResp Transceiver bind_status h.number ∷ []
    else (if h.command == id_of command.Unbind then said.UnbindResp h.number ∷ []
    else (if h.command == id_of command.EnquireLink then said.EnquireLinkResp h.number ∷ []
    else (if is_response h.command then [] else said.GenericNack bad_command_id h.number ∷ []))))

-- what is said to a frame
abbrev pub said_to : Progress → Header → List Said
said_to p h = if h.command == id_of command.SubmitSm then submit_said p (next_submit p) h.number else reply_said p.plan.bind_status h

-- the centre after it
abbrev pub after_frame : Progress → Header → Progress
after_frame p h = if h.command == id_of command.SubmitSm then submit_after p (next_submit p) h.number else p
