-- Messages that are refused because the bind is closed, or because no further message is to begin, and why it is so.
use Rattle.std.specs.Prelude.{◌≡◌, ℕ, ◌≤◌, Bool, true, false, List, Option, Some, None, slice_get}
use Rattle.sms_bind.specs.declared.down.Down.{Down as DownSeen}
use Rattle.sms_bind.specs.declared.down.DownMark.{DownMark}
use Rattle.sms_bind.specs.Downs.{cause_of, IsDownAt}
use Rattle.sms_worker.specs.declared.state.closing.ClosedBy.{ClosedBy}
use Rattle.sms_worker.specs.declared.state.closing.ClosedBy.TheVariants as by
use Rattle.sms_worker.specs.declared.state.closing.Closure.{Closure}
use Rattle.sms_worker.specs.declared.state.closing.Closure.TheVariants.{Down, Turns}
use Rattle.sms_worker.specs.declared.state.stop.NotBegun.{NotBegun}
use Rattle.sms_worker.specs.Types.{MessageEnd}
use Rattle.sms_message.specs.declared.message.Message.{Message}
use Rattle.sms_message.specs.declared.ends.MessageRefusal.TheVariants.{BindClosed}
use Rattle.sms_message.specs.declared.ends.MessageResult.TheVariants.{Refused}

-- the bind was closed when it was the message's turn, or no further message was to begin
abbrev pub IsClosed : MessageEnd → Type 0
IsClosed e = e.result ≡ Refused BindClosed

-- behind such a message there are only such
abbrev pub StaysClosed : List MessageEnd → Type 0
StaysClosed es = (j k : ℕ) (d e : MessageEnd) → j ≤ k → slice_get es j ≡ Some d → slice_get es k ≡ Some e → IsClosed d → IsClosed e

-- there is no such message
abbrev pub NoneIsClosed : List MessageEnd → Type 0
NoneIsClosed es = (k : ℕ) (e : MessageEnd) → slice_get es k ≡ Some e → ¬ IsClosed e

-- and there is none while the bind isn't closed
pub record Closes (closed : Bool) (es : List MessageEnd) : Type 0 where
  pub stays : StaysClosed es
  pub open_yet : closed ≡ false → (k : ℕ) (e : MessageEnd) → slice_get es k ≡ Some e → ¬ IsClosed e

abbrev pub is_closed : Option Closure → Bool
is_closed None = false
is_closed (Some closure) = true

-- the message that the gate refused is one of these
abbrev pub IsRefusedOf : List Message → Option NotBegun → Type 0
IsRefusedOf ms None = Unit {0}
IsRefusedOf ms (Some refusal) = (k : ℕ) × (m : Message) × (slice_get ms k ≡ Some m) × (m.index ≡ refusal.message)

abbrev pub stopped_by : Option NotBegun → Option ClosedBy
stopped_by None = None
stopped_by (Some refusal) = Some (by.Stopped refusal)

-- the bind was closed, so that what waits is given up; where the gate let no further message begin it isn't
abbrev pub IsShut : Option ClosedBy → Type 0
IsShut None = ⊥
IsShut (Some (by.Down cause)) = Unit {0}
IsShut (Some (by.Turns taken)) = Unit {0}
IsShut (Some (by.Stopped refusal)) = ⊥

-- what closed it is of the line of the call, or so many turns were taken
abbrev pub IsCauseAt : ℕ → DownMark → Option Closure → Type 0
IsCauseAt turns mark None = Unit {0}
IsCauseAt turns mark (Some (Turns taken)) = taken.count ≡ turns
IsCauseAt turns mark (Some (Down down)) = IsDownAt mark down

pub record IsCause (turns : ℕ) (mark own : DownMark) (closure : Option Closure) : Type 0 where
  pub same : own ≡ mark
  pub cause : IsCauseAt turns own closure

-- a line that is reported as seen down was seen so: all that see it down see this cause; turns that are reported as over were taken, so many; and the gate
-- refused one of these messages if it is told that it let no further one begin
abbrev pub IsSeen : ℕ → DownMark → List Message → Option ClosedBy → Option DownSeen → Type 0
IsSeen turns mark ms None seen = Unit {0}
IsSeen turns mark ms (Some (by.Turns taken)) seen = taken.count ≡ turns
IsSeen turns mark ms (Some (by.Stopped refusal)) seen = IsRefusedOf ms (Some refusal)
IsSeen turns mark ms (Some (by.Down cause)) None = ⊥
IsSeen turns mark ms (Some (by.Down cause)) (Some seen) = IsDownAt mark seen × (cause_of seen ≡ cause)
