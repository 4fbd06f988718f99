-- The deliver_sm among what came in, and the lines that they are kept as.
use Rattle.std.specs.Prelude.{◌≡◌, ℕ, ◌==◌, Bool, true, List, [], ◌++◌, length, drop, filter, flat_map, Result, Ok, Err}
use Rattle.std.specs.List.{concat, AllByRecursion}
use Rattle.sms_pdu.specs.declared.body.Pdu.{Pdu}
use Rattle.sms_pdu.specs.declared.body.Body.{Body}
use Rattle.sms_pdu.specs.declared.body.Body.TheVariants as body
use Rattle.sms_pdu.specs.declared.command.Command.TheVariants as command
use Rattle.sms_pdu.specs.declared.error.PduError.{PduError}
use Rattle.sms_pdu.specs.Command.{id_of}
use Rattle.sms_pdu.specs.Frame.{Division, IsFrame}
use Rattle.sms_pdu.specs.Header.{number_at}
use Rattle.sms_pdu.specs.Reading.{reading}
use Rattle.sms_inbox.specs.declared.record.Record.{Record}
use Rattle.sms_inbox.specs.Record.{received, record_text}

abbrev pub is_delivery : List ℕ → Bool
is_delivery frame = number_at 4 frame == id_of command.DeliverSm

-- the frames among these that are a deliver_sm, in order
abbrev pub deliveries : List (List ℕ) → List (List ℕ)
deliveries frames = filter is_delivery frames

-- ---- the record of one

-- a deliver_sm whose body can't be read is kept as a message whose text is that body
abbrev pub unread : ℕ → ℕ → List ℕ → Record
unread time bind text = record { time = time; bind = bind; source = []; destination = []; esm_class = 0; id = []; state = []; error = []; text = text }

abbrev pub record_in : ℕ → ℕ → Body → List ℕ → Record
record_in time bind (body.Deliver sm) text = received time bind sm
record_in time bind _ text = unread time bind text

abbrev pub record_by : ℕ → ℕ → Result Pdu PduError → List ℕ → Record
record_by time bind (Ok p) text = record_in time bind p.body text
record_by time bind (Err e) text = unread time bind text

-- what the frame of a deliver_sm is kept as that comes at this time on this bind
abbrev pub arrived : ℕ → ℕ → List ℕ → Record
arrived time bind frame = record_by time bind (reading frame) (drop 16 frame)

-- ---- the lines of all

abbrev pub arrival_text : ℕ → ℕ → List ℕ → List ℕ
arrival_text time bind frame = record_text (arrived time bind frame)

abbrev pub arrivals_text : ℕ → ℕ → List (List ℕ) → List ℕ
arrivals_text time bind frames = flat_map (arrival_text time bind) (deliveries frames)

-- the text has a line for each deliver_sm among the whole frames of the stream, so many, and nothing else
pub record IsPage (time bind : ℕ) (stream text : List ℕ) (count : ℕ) : Type 0 where
  pub frames : List (List ℕ)
  pub rest : List ℕ
  pub divided : Division stream frames rest
  pub are : text ≡ arrivals_text time bind frames
  pub counted : count ≡ length (deliveries frames)

-- the stream has no deliver_sm among its whole frames
pub record HasNone (stream : List ℕ) : Type 0 where
  pub frames : List (List ℕ)
  pub rest : List ℕ
  pub divided : Division stream frames rest
  pub none : deliveries frames ≡ []

-- the frame stands among the whole frames at the front of the stream
pub record IsAmong (frame stream : List ℕ) : Type 0 where
  pub before : List (List ℕ)
  pub after : List ℕ
  pub is : stream ≡ concat before ++ (frame ++ after)
  pub each : AllByRecursion IsFrame before
  pub whole : IsFrame frame

-- ---- law

-- the line stands in the text
pub record HasLine (line text : List ℕ) : Type 0 where
  pub front : List ℕ
  pub back : List ℕ
  pub is : text ≡ front ++ (line ++ back)

-- the page of a stream has the line of each deliver_sm among its whole frames
abbrev pub ArrivalsHaveLines : Type 0
ArrivalsHaveLines = (time bind : ℕ) (stream page frame : List ℕ) (count : ℕ) → IsPage time bind stream page count → IsAmong frame stream → is_delivery frame ≡ true → HasLine (arrival_text time bind frame) page
