-- The frames of a stream that is read an octet at a time (SMPP 3.4 3.2).
use Rattle.std.specs.Prelude.{ℕ, ◌-◌, ◌++◌, ◌∷◌, ◌==◌, List, [], length, nat_lt, if◌then◌else◌}
use Rattle.sms_pdu.specs.Header.{number_at, header_at_front}
use Rattle.sms_devices.specs.declared.waking.headers.FrameEvent.{FrameEvent}
use Rattle.sms_devices.specs.declared.waking.headers.FrameEvent.TheVariants.{Part, Frame, Bad}

-- a frame of which some octets have come: those of its header, and how many octets of its body are still to come
pub record PartialFrame : Type 0 where
  pub front : List ℕ
  pub left : ℕ

abbrev pub partial : List ℕ → ℕ → PartialFrame
partial front left = record { front = front; left = left }

-- between two frames: no octet of the next one has come
abbrev pub between : PartialFrame
between = partial [] 0

-- after a header, with this many octets of its body still to come: with none to come the frame is whole
abbrev pub in_body : List ℕ → ℕ → PartialFrame × FrameEvent
in_body header left = if left == 0 then (between, Frame (header_at_front header)) else (partial header left, Part)

-- after these octets of a header: a command_length below the header's own 16 is bad, and no frame follows it
abbrev pub in_header : List ℕ → PartialFrame × FrameEvent
in_header front =
    if nat_lt (length front) 16 then (partial front 0, Part)
    else (if nat_lt (number_at 0 front) 16 then (partial front 0, Bad) else in_body front (number_at 0 front - 16))

-- after one octet more: the new state, and what this octet was
abbrev pub after_octet : PartialFrame → ℕ → PartialFrame × FrameEvent
after_octet b octet =
    if nat_lt (length b.front) 16 then in_header (b.front ++ octet ∷ [])
    else (if b.left == 0 then (partial b.front 0, Bad) else in_body b.front (b.left - 1))

-- the events of an octet: none where it is one within a frame
abbrev pub events_of : FrameEvent → List FrameEvent
events_of Part = []
events_of (Frame header) = Frame header ∷ []
events_of Bad = Bad ∷ []

-- the state after these octets
abbrev pub after_octets : PartialFrame → List ℕ → PartialFrame
after_octets b [] = b
after_octets b (octet ∷ octets) = after_octets (after_octet b octet).0 octets

-- the events of these octets, in order: each frame that ends in them, and each octet that ends a header with a bad length or follows one
abbrev pub events_in : PartialFrame → List ℕ → List FrameEvent
events_in b [] = []
events_in b (octet ∷ octets) = events_of (after_octet b octet).1 ++ events_in (after_octet b octet).0 octets

-- the event of a whole frame
abbrev pub frame_event : List ℕ → FrameEvent
frame_event frame = Frame (header_at_front frame)
