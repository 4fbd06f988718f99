-- How serving stands between its steps.
use Rattle.std.specs.Prelude.{◌≡◌, ℕ, List, ◌++◌, Bool, false, Option, Some, None}
use Rattle.std.specs.List.{AllZip, concat}
use Rattle.sms_pdu.specs.Streams.{Stretch, going, complete, lost, early}
use Rattle.sms_centre.specs.declared.serving.ServeCause.{ServeCause}
use Rattle.sms_centre.specs.declared.serving.ServeCause.TheVariants as cause
use Rattle.sms_centre.specs.declared.serving.Stop.{Stop}
use Rattle.sms_centre.specs.declared.serving.Stop.TheVariants as stop
use Rattle.sms_centre.specs.Says.{IsSaid, Progress}
use Rattle.sms_centre.specs.Serving.{Talk, talking, talk, conversation, is_early, is_cut, Writes}

abbrev pub cause_of : Stop → ServeCause
cause_of stop.Ended = cause.Ended
cause_of stop.HungUp = cause.Ended
cause_of stop.Unbound = cause.Unbound
cause_of stop.Lost = cause.Lost
cause_of stop.ReadFault = cause.ReadFault
cause_of stop.WriteFault = cause.WriteFault
cause_of stop.Turns = cause.Turns
cause_of stop.OutOfMemory = cause.OutOfMemory

-- what a frame brought
abbrev pub brought : Option Stop → Option ServeCause
brought (Some stop.HungUp) = Some cause.Ended
brought (Some stop.Unbound) = Some cause.Unbound
brought _ = None

-- how the stretch of reading stands: a bad length stands after the frames exactly where the connection is lost, unless it
-- ended early
abbrev pub stretch_of : Option Stop → Stretch
stretch_of None = going
stretch_of (Some stop.Ended) = complete
stretch_of (Some stop.HungUp) = early
stretch_of (Some stop.Unbound) = early
stretch_of (Some stop.Lost) = lost
stretch_of (Some stop.ReadFault) = complete
stretch_of (Some stop.WriteFault) = early
stretch_of (Some stop.Turns) = complete
stretch_of (Some stop.OutOfMemory) = early

abbrev pub ends_early : Option Stop → Bool
ends_early None = false
ends_early (Some s) = is_early (cause_of s)

abbrev pub ends_cut : Option Stop → Bool
ends_cut None = false
ends_cut (Some s) = is_cut (cause_of s)

-- the connection where the centre stands so
abbrev pub talk_at : Progress → Option Stop → Talk
talk_at p end = record { now = p; over = brought end }

-- these octets more were said to these frames, all of them
pub record Answered (p q : Progress) (end : Option Stop) (old new : List ℕ) (frames : List (List ℕ)) : Type 0 where
  pub pieces : List (List ℕ)
  pub each : AllZip IsSaid (conversation (talking p) frames) pieces
  pub grown : new ≡ old ++ concat pieces
  pub reached : talk_at q end ≡ talk (talking p) frames

-- what was said to these frames was written
pub record Written (p q : Progress) (end : Option Stop) (old new : Option (List ℕ)) (frames : List (List ℕ)) : Type 0 where
  pub pieces : List (List ℕ)
  pub each : AllZip IsSaid (conversation (talking p) frames) pieces
  pub writes : Writes (ends_cut end) old new (concat pieces)
  pub at : q ≡ (talk (talking p) frames).now
  pub reached : ends_early end ≡ false → talk_at q end ≡ talk (talking p) frames
