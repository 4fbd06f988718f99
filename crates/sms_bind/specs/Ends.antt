-- What a reader promises of what it read.
use Rattle.std.specs.Prelude.{◌≡◌, ◌≢◌, ◌↔◌, ℕ, ◌+◌, List, [], ◌++◌, length, map, Bool, Option, Some}
use mathlib.Core.List.{IsPrefix}
use Rattle.std.specs.Io.KnownBytes.{Consumes}
use Rattle.sms_pdu.specs.declared.reply.Reply.{Reply}
use Rattle.sms_pdu.specs.Frame.{Division, IsBad}
use Rattle.sms_pdu.specs.Reply.{answers}
use Rattle.sms_pdu.specs.Streams.{early}
use Rattle.sms_session.specs.declared.session.State.{State}
use Rattle.sms_slot.specs.Rings.{handed, count_handed}
use Rattle.sms_bind.specs.declared.ending.ReaderCause.TheVariants.{Lost}
use Rattle.sms_bind.specs.declared.ending.ReaderEnd.{ReaderEnd}
use Rattle.sms_bind.specs.declared.outcome.FrameOutcome.{FrameOutcome}
use Rattle.sms_bind.specs.Held.{Held}
use Rattle.sms_bind.specs.Deeds.{SuitAll, FollowAll, TakeRoomAll, Reaches, state_after, stretch_of, log, counted, of_answer, of_response, is_note, overruns, misses, delivers, nacks, is_silent, is_broken, broken_at}

-- the counts of a reader that ended are those of its frames' outcomes
pub record Tells (deeds : List FrameOutcome) (end : ReaderEnd) : Type 0 where
  pub answered : end.answered ≡ count_handed (log deeds)
  pub unknown : end.unknown ≡ counted (of_answer misses) deeds
  pub overrun : end.overrun ≡ counted (of_answer overruns) deeds
  pub all : end.answered + end.unknown + end.overrun ≡ length (log deeds)
  pub delivered : end.delivered ≡ counted (of_response (λ response written. delivers response)) deeds
  pub noted : end.noted ≡ counted is_note deeds
  pub nacked : end.nacked ≡ counted (of_response nacks) deeds
  pub unreplied : end.unreplied ≡ counted (of_response (λ response written. is_silent written)) deeds

-- the room that each ring was known to have, before the frames were handled and after
pub record LeavesRoom (old new : List (List Reply)) (before after : List ℕ) (end : ReaderEnd) : Type 0 where
  pub deeds : List FrameOutcome
  pub hands : new ≡ handed old (log deeds)
  pub counts : Tells deeds end
  pub room : TakeRoomAll deeds before after

-- The session was bound in `state`, and `begun` had been read already; `keeps` says whether deliver_sm are to be kept. `before` and `after`
-- are what the input had left, `old` and `new` the answers that each ring had taken.
pub record HandsOn (keeps : Bool) (state : State) (begun : List ℕ) (before after : Option (List ℕ)) (old new : List (List Reply)) (held : Held) (end : ReaderEnd) : Type 0 where
  -- what was read: the frames that were handled (`worked`), the frames that were not, and the rest
  pub got : List ℕ
  pub consumed : Consumes before after got
  pub worked : List (List ℕ)
  pub others : List (List ℕ)
  pub rest : List ℕ
  pub divided : Division (begun ++ got) (worked ++ others) rest
  pub whole : stretch_of (Some end.cause) ≢ early → others ≡ []
  -- the rest begins with a bad length iff the reader ended for it
  pub lost : stretch_of (Some end.cause) ≢ early → (end.cause ≡ Lost) ↔ IsBad rest
  -- the outcome of each frame, and the session's state after them
  pub deeds : List FrameOutcome
  pub each : SuitAll keeps state worked deeds
  pub reaches : Reaches (Some end.cause) state (state_after state worked)
  pub breaks : counted (of_response (λ response written. is_broken written)) deeds ≡ broken_at (Some end.cause)
  -- the answers among the handled frames are a prefix of the stream's answers, each with the place of the ring that took it
  pub are : map (λ e. e.0) (log deeds) ≡ answers worked
  pub prefix : IsPrefix (map (λ e. e.0) (log deeds)) (answers (worked ++ others))
  pub hands : new ≡ handed old (log deeds)
  pub counts : Tells deeds end
  -- the reader's seat after these answers
  pub last : Held
  pub follows : FollowAll deeds held last
  pub seat : end.seat ≡ last.now
