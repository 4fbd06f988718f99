-- What the centre says on a connection, and why that ends.
use Rattle.std.specs.Prelude.{◌≡◌, ℕ, List, [], ◌∷◌, ◌++◌, ◌⊎◌, Bool, true, false, Option, Some, None, ◌==◌, if◌then◌else◌}
use mathlib.Core.List.{IsPrefix}
use Rattle.std.specs.List.{AllZip, concat}
use Rattle.std.specs.Io.KnownBytes.{Appends, Consumes, IsAtEnd}
use Rattle.sms_pdu.specs.declared.header.Header.{Header}
use Rattle.sms_pdu.specs.declared.command.Command.TheVariants as command
use Rattle.sms_pdu.specs.Command.{id_of}
use Rattle.sms_pdu.specs.Header.{header_at_front}
use Rattle.sms_pdu.specs.Frame.{Division, IsBad}
use Rattle.sms_pdu.specs.Streams.{FewerAppended}
use Rattle.sms_centre.specs.declared.said.Said.{Said}
use Rattle.sms_centre.specs.declared.treatment.Treatment.{Treatment}
use Rattle.sms_centre.specs.declared.treatment.Treatment.TheVariants.{Status, Nack, Silent, Unbind, Twice, Stray, Late, Deliver, Cut, Huge}
use Rattle.sms_centre.specs.declared.serving.ServeCause.{ServeCause}
use Rattle.sms_centre.specs.declared.serving.ServeCause.TheVariants.{Ended, Unbound, Lost, ReadFault, WriteFault, Turns, OutOfMemory}
use Rattle.sms_centre.specs.Scripts.{treatment}
use Rattle.sms_centre.specs.Says.{IsSaid, Progress, said_to, after_frame, next_submit}

-- two treatments end the connection
abbrev pub hangs_up : Treatment → Option ServeCause
hangs_up (Status status) = None
hangs_up (Nack status) = None
hangs_up Silent = None
hangs_up Unbind = None
hangs_up (Twice status) = None
hangs_up (Stray status) = None
hangs_up (Late after status) = None
hangs_up Deliver = None
hangs_up Cut = Some Ended
hangs_up Huge = Some Ended

-- why the connection ends after what is said to a frame, if it does
abbrev pub end_at : Progress → Header → Option ServeCause
end_at p h =
    if h.command == id_of command.SubmitSm then hangs_up (treatment p.plan (next_submit p))
    else (if h.command == id_of command.Unbind then Some Unbound else None)

-- a connection: the centre, and why it is over once a frame brought its end
pub record Talk : Type 0 where
  pub now : Progress
  pub over : Option ServeCause

abbrev pub talking : Progress → Talk
talking p = record { now = p; over = None }

-- nothing is read or said after the end
abbrev pub hears : Option ServeCause → Progress → Header → Talk
hears None p h = record { now = after_frame p h; over = end_at p h }
hears (Some cause) p h = record { now = p; over = Some cause }

abbrev pub tells : Option ServeCause → Progress → Header → List Said
tells None p h = said_to p h
tells (Some cause) p h = []

-- the connection after frames, and what is said to them
abbrev pub talk : Talk → List (List ℕ) → Talk
talk t [] = t
talk t (f ∷ fs) = talk (hears t.over t.now (header_at_front f)) fs

abbrev pub conversation : Talk → List (List ℕ) → List Said
conversation t [] = []
conversation t (f ∷ fs) = tells t.over t.now (header_at_front f) ++ conversation (hears t.over t.now (header_at_front f)) fs

-- not all frames that came before the end need be answered
abbrev pub is_early : ServeCause → Bool
is_early WriteFault = true
is_early OutOfMemory = true
is_early Ended = false
is_early Unbound = false
is_early Lost = false
is_early ReadFault = false
is_early Turns = false

-- not all that was said is written
abbrev pub is_cut : ServeCause → Bool
is_cut WriteFault = true
is_cut Ended = false
is_cut Unbound = false
is_cut Lost = false
is_cut ReadFault = false
is_cut Turns = false
is_cut OutOfMemory = false

-- what each cause says: whether a frame brought the end, and else what stands after the frames, where the rest is bad
-- exactly where the connection is lost
abbrev pub Brings : ServeCause → Option ServeCause → List ℕ → Option (List ℕ) → Type 0
Brings Ended over rest after = (over ≡ Some Ended) ⊎ ((over ≡ None) × IsAtEnd after × (¬ IsBad rest))
Brings Unbound over rest after = over ≡ Some Unbound
Brings Lost over rest after = (over ≡ None) × IsBad rest
Brings ReadFault over rest after = (over ≡ None) × (¬ IsBad rest)
Brings Turns over rest after = (over ≡ None) × (¬ IsBad rest)
Brings WriteFault over rest after = Unit {0}
Brings OutOfMemory over rest after = Unit {0}

-- fewer than all of the octets, the first ones, or all
abbrev pub Writes : Bool → Option (List ℕ) → Option (List ℕ) → List ℕ → Type 0
Writes true old new octets = FewerAppended old new octets
Writes false old new octets = Appends old new octets

-- what serving a connection promises. `got` was read, and its first frames were answered: all of them that came before
-- the connection was over, unless a write failed or memory ran out. What was said to them is written, or where a write
-- failed only some first octets of it.
pub record Serves (begun : Progress) (before after old new : Option (List ℕ)) (cause : ServeCause) (submits : ℕ) : Type 0 where
  pub got : List ℕ
  pub consumed : Consumes before after got
  pub frames : List (List ℕ)
  pub rest : List ℕ
  pub divided : Division got frames rest
  pub answered : List (List ℕ)
  pub first : IsPrefix answered frames
  pub pieces : List (List ℕ)
  pub each : AllZip IsSaid (conversation (talking begun) answered) pieces
  pub writes : Writes (is_cut cause) old new (concat pieces)
  pub counted : submits ≡ (talk (talking begun) answered).now.submits
  pub whole : is_early cause ≡ false → talk (talking begun) frames ≡ talk (talking begun) answered
  pub said : is_early cause ≡ false → conversation (talking begun) frames ≡ conversation (talking begun) answered
  pub why : Brings cause (talk (talking begun) frames).over rest after
