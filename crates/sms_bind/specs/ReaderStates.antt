-- The state of a reader before and after it handles frames.
use Rattle.std.specs.Prelude.{◌≡◌, ℕ, ◌+◌, ◌≤◌, List, length, map, Bool, Option}
use Rattle.std.specs.List.{AllZip}
use Rattle.rtrb.specs.Ring.{sent, known_free, SameProducer}
use Rattle.sms_pdu.specs.Frame.{IsRest, IsBad}
use Rattle.sms_session.specs.declared.session.State.{State}
use Rattle.sms_session.specs.Session.{IsBound}
use Rattle.sms_slot.specs.Rings.{handed}
use Rattle.sms_bind.specs.declared.reader_state.ReaderState.{ReaderState}
use Rattle.sms_bind.specs.declared.outcome.FrameOutcome.{FrameOutcome}
use Rattle.sms_bind.specs.declared.ending.ReaderCause.{ReaderCause}
use Rattle.sms_bind.specs.Deeds.{SuitAll, FollowAll, TakeRoomAll, Reaches, state_after, log, tallies, counted, of_response, is_broken, broken_at, IsWithin}

-- the frames were handled one after another, beginning in this state of the session, and that ended the reader where `end` is a cause
pub record Handled (state : State) (end : Option ReaderCause) (old new : ReaderState) (frames : List (List ℕ)) : Type 0 where
  pub deeds : List FrameOutcome
  -- by whether deliver_sm are to be kept, which stays
  pub each : SuitAll old.keeps state frames deeds
  pub keeps : new.keeps ≡ old.keeps
  pub reaches : Reaches end state (state_after state frames)
  pub breaks : counted (of_response (λ response written. is_broken written)) deeds ≡ broken_at end
  pub rings : AllZip SameProducer old.producers.items new.producers.items
  pub sends : map sent new.producers.items ≡ handed (map sent old.producers.items) (log deeds)
  pub room : TakeRoomAll deeds (map known_free old.producers.items) (map known_free new.producers.items)
  pub counts : new.counts ≡ tallies old.counts deeds
  pub follows : FollowAll deeds old.follower new.follower

-- the reader can handle frames: its session is bound, no count is more than its frames, and it knows whether deliver_sm are to be kept
pub record IsReady (asked : Bool) (state : ReaderState) : Type 0 where
  pub bound : IsBound state.session
  pub within : IsWithin state.counts
  pub keeps : asked ≡ state.keeps

-- the reader can take a turn: it can handle frames, and holds the beginning of one
pub record CanRead (keeps : Bool) (state : ReaderState) (held : List ℕ) : Type 0 where
  pub ready : IsReady keeps state
  pub rest : IsRest held
  pub good : ¬ IsBad held

-- the reader goes on after a turn: it held `held` before, and holds `kept` now
pub record GoesOn (old new : ReaderState) (held kept : List ℕ) : Type 0 where
  pub session : new.session ≡ old.session
  pub good : ¬ IsBad kept
  -- there are no more frames than octets
  pub room : new.counts.frames + length kept ≤ old.counts.frames + length held + 65536
