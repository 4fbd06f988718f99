-- On which of the frames that a bind's reader read the charges of the bind's workers rest.
use Rattle.std.specs.Prelude.{◌≡◌, ℕ, suc, Bool, List, ◌++◌, Option, Some, length, map, slice_get}
use Rattle.std.specs.List.{AllZip}
use mathlib.Core.List.{IsPrefix}
use Rattle.std.specs.Io.KnownBytes.{Consumes}
use Rattle.std.specs.declared.alloc.Global.{Global}
use Rattle.rtrb.specs.declared.AnyItems.{AnyItems}
use Rattle.rtrb.specs.declared.producer.Producer.{Producer}
use Rattle.rtrb.specs.declared.consumer.Consumer.{Consumer}
use Rattle.rtrb.specs.Ring.{sent, received}
use Rattle.sms_core.specs.Statuses.{no_error}
use Rattle.sms_pdu.specs.declared.command.Command.TheVariants.{SubmitSmResp}
use Rattle.sms_pdu.specs.declared.reply.Reply.{Reply}
use Rattle.sms_pdu.specs.Command.{id_of}
use Rattle.sms_pdu.specs.Frame.{Division}
use Rattle.sms_pdu.specs.Header.{header_at_front}
use Rattle.sms_session.specs.declared.session.State.{State}
use Rattle.sms_bind.specs.declared.ending.ReaderEnd.{ReaderEnd}
use Rattle.sms_bind.specs.Ends.{HandsOn}
use Rattle.sms_bind.specs.Held.{Held}
use Rattle.sms_message.specs.declared.message.Message.{Message}
use Rattle.sms_message.specs.declared.rules.Rules.{Rules}
use Rattle.sms_worker.specs.Types.{Attempt, MessageEnd, SegmentEnd}
use Rattle.sms_message.specs.declared.ends.Outcome.TheVariants.{Charged}
use Rattle.sms_worker.specs.Apart.{PlacesApart}
use Rattle.sms_worker.specs.EndOf.{IsEndOf}
use Rattle.sms_message.specs.Ends.{segment_at}
use Rattle.sms_worker.specs.Told.{AllTold}

-- a submit_sm_resp with ESME_ROK and this sequence_number (SMPP 3.4 3.2, 4.4.2); a generic_nack has another command_id
pub record Accepts (number : ℕ) (frame : List ℕ) : Type 0 where
  pub response : (header_at_front frame).command ≡ id_of SubmitSmResp
  pub status : (header_at_front frame).status ≡ no_error
  pub numbered : (header_at_front frame).number ≡ number

-- the frame accepts the last attempt of the segment
pub record AcceptsLast (s : SegmentEnd) (frame : List ℕ) : Type 0 where
  pub place : ℕ
  pub last : Attempt
  pub is : slice_get s.attempts place ≡ Some last
  pub no_later : length s.attempts ≡ suc place
  pub accepts : Accepts last.number frame

-- a segment that was charged: of which worker, of which of its messages, and which part. `ess` are the ends of a bind's workers
pub record Charge (ess : List (List MessageEnd)) : Type 0 where
  pub worker : ℕ
  pub message : ℕ
  pub part : ℕ
  pub ends : List MessageEnd
  pub theirs : slice_get ess worker ≡ Some ends
  pub segment : SegmentEnd
  pub there : segment_at ends message part ≡ Some segment
  pub charged : segment.outcome ≡ Charged

-- each charge has its place among the frames, the frame there accepts its last attempt, and charges with one place are one
pub record RestOn (frames : List (List ℕ)) (ess : List (List MessageEnd)) : Type 0 where
  pub place : Charge ess → ℕ
  pub accepted : (x : Charge ess) → (frame : List ℕ) × (slice_get frames (place x) ≡ Some frame) × AcceptsLast x.segment frame
  pub apart : (x y : Charge ess) → place x ≡ place y → (x.worker ≡ y.worker) × (x.message ≡ y.message) × (x.part ≡ y.part)

-- the octets that a reader had and those that it read are these frames and a rest, and the charges rest on the frames
pub record RestOnRead (begun : List ℕ) (before after : Option (List ℕ)) (ess : List (List MessageEnd)) : Type 0 where
  pub got : List ℕ
  pub consumed : Consumes before after got
  pub frames : List (List ℕ)
  pub rest : List ℕ
  pub divided : Division (begun ++ got) frames rest
  pub rests : RestOn frames ess

-- what came out of the ring is a beginning of what went into it
abbrev pub HasReceived : Producer Reply Global AnyItems → Consumer Reply Global AnyItems → Type 0
HasReceived producer consumer = IsPrefix (received consumer) (sent producer)

-- what `run_worker` promised of the ends of the worker at a place of its bind. `rings` are the ends of the rings that the reader
-- was given, and `consumers` those that the workers gave back. All that was in its ring when its call began had been received
pub record Worked (rings : List (Producer Reply Global AnyItems)) (consumers : List (Consumer Reply Global AnyItems)) (worker : ℕ) (ends : List MessageEnd) : Type 0 where
  pub ring : Producer Reply Global AnyItems
  pub its : slice_get rings worker ≡ Some ring
  pub begun : Consumer Reply Global AnyItems
  pub drained : sent ring ≡ received begun
  pub consumer : Consumer Reply Global AnyItems
  pub back : slice_get consumers worker ≡ Some consumer
  pub rules : Rules
  pub accounts : ℕ
  pub messages : List Message
  pub each : AllZip (IsEndOf rules accounts) messages ends
  pub answers : AllTold rules (length (received begun)) (received consumer) messages ends
  pub places : PlacesApart (received consumer) ends

-- the law of one bind. Its reader was given these rings and gave back these producers, and promised of them what `read_loop` does;
-- the workers gave back these consumers
abbrev pub ChargesRestOnFrames : List (Producer Reply Global AnyItems) → List (Consumer Reply Global AnyItems) → Type 0
ChargesRestOnFrames producers consumers =
    (rings : List (Producer Reply Global AnyItems)) (keeps : Bool) (state : State) (begun : List ℕ) (before after : Option (List ℕ)) (held : Held) (end : ReaderEnd) (ess : List (List MessageEnd))
    → HandsOn keeps state begun before after (map sent rings) (map sent producers) held end
    → ((worker : ℕ) (ends : List MessageEnd) → slice_get ess worker ≡ Some ends → Worked rings consumers worker ends)
    → RestOnRead begun before after ess
