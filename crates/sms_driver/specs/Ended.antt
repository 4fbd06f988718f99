-- How each bind's reader ended.
use Rattle.std.specs.Prelude.{◌≡◌, ◌<◌, ◌*◌, ◌++◌, ℕ, Bool, List, Option, Some, slice_get}
use Rattle.std.specs.Io.KnownBytes.{IsAtEnd}
use Rattle.std.specs.List.{concat}
use Rattle.sms_pdu.specs.Turn.{most_piece, GaveAtMost}
use Rattle.sms_pdu.specs.declared.reply.Reply.{Reply}
use Rattle.sms_bind.specs.declared.bound.Bound.{Bound}
use Rattle.sms_bind.specs.declared.line.StopSeen.{StopSeen}
use Rattle.sms_bind.specs.declared.ending.ReaderCause.TheVariants.{Ended, ReadFault, Stopped, Turns}
use Rattle.sms_bind.specs.declared.ending.ReaderEnd.{ReaderEnd}
use Rattle.sms_bind.specs.Ends.{HandsOn}
use Rattle.sms_bind.specs.Follows.{most_held}
use Rattle.sms_bind.specs.Held.{Held}
use Rattle.sms_bind.specs.Turns.{Stops, TookTurns}
use Rattle.sms_driver.specs.declared.bind_end.BindEnd.{BindEnd}
use Rattle.sms_driver.specs.declared.bind_end.ReaderOutcome.{ReaderOutcome}
use Rattle.sms_driver.specs.declared.binding.BindSettings.{BindSettings}
use Rattle.sms_driver.specs.BindEnds.{follow_of, outcome_of}
use Rattle.sms_driver.specs.Reads.{IsOpened}

-- a bind was opened by the first octets of those in `told`, and a reader worked the octets after them; its end says this: its cause agrees with
-- the frames that were worked and the octets left after them, its counts with what was done with the frames
pub record HasEnded (all : BindSettings) (turns : ℕ) (told : Option (List ℕ)) (outcome : ReaderOutcome) : Type 0 where
  pub bound : Bound
  pub between : Option (List ℕ)
  pub opened : IsOpened all.settings.mode told between bound
  pub left : Option (List ℕ)
  pub old : List (List Reply)
  pub new : List (List Reply)
  pub held : Held
  pub end : ReaderEnd
  -- whether deliver_sm were to be kept
  pub keeps : Bool
  pub hands : HandsOn keeps bound.session (concat bound.frames ++ bound.framer) between left old new held end
  pub is : outcome ≡ outcome_of end
  -- it followed throttling as the settings say
  pub follows : held.most ≡ most_held (follow_of all)
  -- it was read in at most this many turns; if the cause is that they were used up, in exactly as many, each of which met one of the errors or gave some
  -- octets; the input ended only if all of it was read, the reader was stopped only if a turn was left, and a read failed only if the input answered an error.
  -- (Refused memory leaves nothing to read; of it, it is known that no response was broken and that the session is open.)
  pub most : GaveAtMost (most_piece * turns) between left
  pub took : outcome.cause ≡ Turns → TookTurns turns outcome.errors between left
  pub ended : outcome.cause ≡ Ended → IsAtEnd left
  pub stopped : (seen : StopSeen) → outcome.cause ≡ Stopped seen → Stops turns between left
  pub fault : outcome.cause ≡ ReadFault → 0 < outcome.errors

-- the same of each bind
abbrev pub HaveEnded : BindSettings → ℕ → (ℕ → Option (List ℕ)) → List BindEnd → Type 0
HaveEnded all turns told ends = (bind : ℕ) (b : BindEnd) → slice_get ends bind ≡ Some b → HasEnded all turns (told bind) b.reader
