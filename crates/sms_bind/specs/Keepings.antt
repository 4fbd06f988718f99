-- What became of the deliver_sm of a turn, and which acknowledgements that allows (SMPP 3.4 4.6).
use Rattle.std.specs.Prelude.{◌≡◌, ℕ, ◌==◌, ◌&&◌, not, Bool, true, false, List, if◌then◌else◌}
use Rattle.sms_core.specs.Statuses.{no_error}
use Rattle.sms_pdu.specs.declared.command.Command.TheVariants as command
use Rattle.sms_pdu.specs.Command.{id_of}
use Rattle.sms_pdu.specs.Header.{number_at}
use Rattle.sms_session.specs.declared.session.Response.{Response}
use Rattle.sms_inbox.specs.Arrivals.{IsAmong}
use Rattle.sms_inbox.specs.Files.{stream_of, unkept_of}
use Rattle.sms_bind.specs.declared.device.Keeping.{Keeping}
use Rattle.sms_bind.specs.declared.device.Keeping.TheVariants.{Unasked, Kept, Unkept}

-- whether they were to be kept
abbrev pub is_asked : Keeping → Bool
is_asked Unasked = false
is_asked (Kept kept) = true
is_asked (Unkept unkept) = true

-- it is what became of those of this stream
abbrev pub IsOf : List ℕ → Keeping → Type 0
IsOf stream Unasked = Unit {0}
IsOf stream (Kept kept) = stream_of kept ≡ stream
IsOf stream (Unkept unkept) = unkept_of unkept ≡ stream

-- it is what became of those of a stream in which this frame stands
abbrev pub Covers : List ℕ → Keeping → Type 0
Covers frame Unasked = Unit {0}
Covers frame (Kept kept) = IsAmong frame (stream_of kept)
Covers frame (Unkept unkept) = IsAmong frame (unkept_of unkept)

-- whether they may be acknowledged: where they aren't to be kept, and where they are
abbrev pub allows : Keeping → Bool
allows Unasked = true
allows (Kept kept) = true
allows (Unkept unkept) = false

-- ---- responses

-- a response acknowledges a deliver_sm: the message centre doesn't send that again
abbrev pub acknowledges : Response → Bool
acknowledges response = (response.command == id_of command.DeliverSmResp) && (response.status == no_error)

-- ESME_RX_T_APPN: the receiver can't take it now (5.1.3)
abbrev pub temporary_error : ℕ
temporary_error = 0x64

abbrev pub refused : Response → Response
refused response = record { command = response.command; status = temporary_error; number = response.number }

-- the response that goes out in place of the one that the table asks for
abbrev pub answer_to : Keeping → Response → Response
answer_to keeping response = if acknowledges response && not (allows keeping) then refused response else response

-- ---- frames

-- the frame acknowledges a deliver_sm
abbrev pub IsAcknowledgement : List ℕ → Type 0
IsAcknowledgement frame = (number_at 4 frame ≡ id_of command.DeliverSmResp) × (number_at 8 frame ≡ no_error)

-- what became of them allows it to acknowledge the deliver_sm of this frame, whose number it has
pub record Permits (keeping : Keeping) (delivery frame : List ℕ) : Type 0 where
  pub allowed : allows keeping ≡ true
  pub covers : Covers delivery keeping
  pub number : number_at 12 frame ≡ number_at 12 delivery
